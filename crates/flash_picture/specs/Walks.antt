-- The walks that decide that the newest version of a page does not count, each as a chain of arrows.
use Rattle.std.specs.Prelude.{◌≡◌, ℕ, zero, suc, ◌%◌, ◌<◌, ◌==◌, Bool, true, false, not, ◌&&◌, ◌||◌, nat_lt, if◌then◌else◌, List, [], ◌∷◌, ◌++◌, length, map, take, slice_index_or, slice_set, Option, None, Some, is_some, codes}
use Rattle.std.specs.List.{flat_map, list_any, range_with_len}
use Rattle.std.specs.Fmt.{decimal}
use Rattle.tx_types.specs.declared.config.Protocol.{Protocol}
use Rattle.tx_types.specs.declared.record.Link.{Link}
use Rattle.record_list.specs.declared.found.Found.{Found}
use Rattle.record_list.specs.declared.found.Why.{Why}
use Rattle.record_list.specs.declared.found.Why.TheVariants as reason
use Rattle.record_list.specs.Records.{is_same, newest, record_at}
use Rattle.record_list.specs.Verdict.{newest_name, link_of, is_ahead, is_behind, is_committed, why}
use Rattle.sorted_records.specs.declared.orbit.Orbit.{Orbit}
use Rattle.sorted_records.specs.declared.orbit.Orbit.TheVariants.{Ends, Round, Aside}
use Rattle.verdict_report.specs.Walks.{links_of}
use Rattle.flash_picture.specs.declared.walk.End.{End}
use Rattle.flash_picture.specs.declared.walk.End.TheVariants.{Absent, Straddled, TooLong}
use Rattle.flash_picture.specs.declared.walk.Step.{Step}
use Rattle.flash_picture.specs.declared.walk.Step.TheVariants.{To, Dots}
use Rattle.flash_picture.specs.Cells.{name_word}

-- ---- the link at which a walk leaves the newest records

-- a link, where it is to a version above, or below, the newest of its page
abbrev pub leaving_link : List Found → Link → Option Link
leaving_link list link = if is_ahead list link || is_behind list link then Some link else None

-- the link at which a walk from the record `start` leaves the newest records, that has come to this link and looks at
-- this many links yet; nothing where it leaves them at none of these
abbrev pub left_from : List Found → Link → ℕ → Link → Option Link
left_from list start zero link = None
left_from list start (suc turns) link =
    if is_ahead list link || is_behind list link then Some link
    else if is_same link start then None
    else left_from list start turns (link_of list link)

-- that of the walk from the newest record of a page
abbrev pub leaving_link_at : List Found → ℕ → ℕ → Option Link
leaving_link_at list logical page =
    left_from list (newest_name list page) (suc logical) (link_of list (newest_name list page))

-- the link at which the walk of a page leaves the newest records, from the orbit of the place of its newest record
abbrev pub leaving_link_by : List Found → ℕ → Orbit → Option Link
leaving_link_by list logical (Ends after at) =
    if nat_lt logical after then None else leaving_link list (record_at list at).next
leaving_link_by list logical (Round turns) = None
leaving_link_by list logical Aside = None

-- ---- what is shown of a walk

-- how many of its first links
abbrev pub most_links : ℕ
most_links = 16

-- two dots, and the last link, if there is one
abbrev pub last_steps : Option Link → List Step
last_steps None = Dots ∷ []
last_steps (Some link) = Dots ∷ To link ∷ []

-- the steps over these links, where the walk leaves the newest records at this one: all links, or the first ones, two
-- dots for the others, and the one at which it leaves them
abbrev pub steps_over : List Link → Option Link → List Step
steps_over links last =
    map To (take most_links links) ++ (if nat_lt most_links (length links) then last_steps last else [])

-- the steps of the walk from the newest record of a page
abbrev pub steps_of : List Found → ℕ → ℕ → List Step
steps_of list logical page = steps_over (links_of list logical page) (leaving_link_at list logical page)

-- how a walk ends, by what decides the verdict and by where it leaves the newest records; nothing where the newest
-- version counts
abbrev pub end_by : Why → Option Link → Option End
end_by reason.Cycle last = None
end_by reason.Passed last = None
end_by reason.Absent None = Some TooLong
end_by reason.Absent (Some link) = Some Absent
end_by (reason.Straddled version) last = Some (Straddled version)

-- how the walk from the newest record of a page ends
abbrev pub end_of : Protocol → List Found → ℕ → ℕ → Option End
end_of protocol list logical page = end_by (why protocol list logical page) (leaving_link_at list logical page)

-- ---- which pages have a line of their own

-- whether the newest record of a page does not count, and links to this name
abbrev pub leads_to : Protocol → List Found → ℕ → Link → ℕ → Bool
leads_to protocol list logical name page =
    not (is_committed (why protocol list logical page)) && is_same (link_of list (newest_name list page)) name

-- whether such a record links to the newest one of this page: its walk goes on as the walk of this page
abbrev pub is_led_to : Protocol → List Found → ℕ → ℕ → Bool
is_led_to protocol list logical page =
    list_any (leads_to protocol list logical (newest_name list page)) (range_with_len 0 logical)

-- how many records a line names: that at which its walk begins, and those of its first links
abbrev pub most_named : ℕ
most_named = 17

-- whether a walk leaves the newest records, and not after a multiple of so many links
abbrev pub is_part : List Found → ℕ → ℕ → Bool
is_part list logical page =
    is_some (leaving_link_at list logical page) && not (length (links_of list logical page) % most_named == 0)

-- the same of the page of an orbit
abbrev pub part_by : List Found → ℕ → Orbit → Bool
part_by list logical (Ends after at) =
    is_some (leaving_link_by list logical (Ends after at)) && not (suc after % most_named == 0)
part_by list logical (Round turns) = false
part_by list logical Aside = false

-- Whether a page leaves it to the line of another one to name its newest record. A walk that many pages share is told
-- once: the lines are those of pages to which no walk leads, of each seventeenth page from the end of a long walk, and
-- of pages whose walk leaves the newest records nowhere.
abbrev pub is_shared : Protocol → List Found → ℕ → ℕ → Bool
is_shared protocol list logical page = is_led_to protocol list logical page && is_part list logical page

-- how the line of a page ends; nothing where its newest version counts, or the line of another page names that
abbrev pub line_end : Protocol → List Found → ℕ → ℕ → Option End
line_end protocol list logical page =
    if is_shared protocol list logical page then None else end_of protocol list logical page

-- the page to whose newest record a link leads, if it leads to one
abbrev pub page_of_newest : List Found → ℕ → Link → Option ℕ
page_of_newest list logical link =
    if nat_lt link.page logical && (link.version == newest list link.page) then Some link.page else None

-- the page to whose newest record that of this page links, where the latter does not count
abbrev pub page_behind : Protocol → List Found → ℕ → ℕ → Option ℕ
page_behind protocol list logical page =
    if is_committed (why protocol list logical page) then None
    else page_of_newest list logical (link_of list (newest_name list page))

-- marks, with that of a page, if there is one
abbrev pub marked : Option ℕ → List Bool → List Bool
marked None led = led
marked (Some page) led = slice_set led page true

-- for each page whether the newest record of one of the first pages does not count, and links to its newest one
pub record AreLedTo (protocol : Protocol) (list : List Found) (logical some : ℕ) (led : List Bool) : Type 0 where
  pub size : length led ≡ logical
  pub each : (page : ℕ) (none : Bool) → page < logical → slice_index_or led page none
      ≡ list_any (leads_to protocol list logical (newest_name list page)) (range_with_len 0 some)

-- ---- its text

abbrev pub step_text : Step → List ℕ
step_text (To link) = codes " -> " ++ name_word link
step_text Dots = codes " .."

abbrev pub end_text : End → List ℕ
end_text Absent = codes " absent"
end_text (Straddled version) = codes " straddled by " ++ decimal version
end_text TooLong = codes " too long"

abbrev pub start_text : Link → List ℕ
start_text start = codes "walk " ++ name_word start

-- the line of a walk from a record
abbrev pub line_text : Link → List Step → End → List ℕ
line_text start steps end = start_text start ++ flat_map step_text steps ++ end_text end ++ 10 ∷ []

-- the line of a page that ends so; nothing where it has none
abbrev pub walk_line : List Found → ℕ → ℕ → Option End → List ℕ
walk_line list logical page None = []
walk_line list logical page (Some end) = line_text (newest_name list page) (steps_of list logical page) end

abbrev pub walk_text : Protocol → List Found → ℕ → ℕ → List ℕ
walk_text protocol list logical page = walk_line list logical page (line_end protocol list logical page)

abbrev pub walks_text : Protocol → List Found → ℕ → List ℕ
walks_text protocol list logical =
    flat_map (walk_text protocol list logical) (range_with_len 0 logical)
