-- The pieces of which a picture in SVG consists.
use Rattle.std.specs.Prelude.{ℕ, ◌+◌, List, ◌∷◌, ◌++◌, codes}
use Rattle.std.specs.Fmt.{decimal}
use Rattle.flash_picture.specs.declared.grid.Spot.{Spot}

-- an attribute whose value is a number
unfoldable pub attribute : List ℕ → ℕ → List ℕ
attribute name value = 32 ∷ (name ++ codes "='" ++ decimal value ++ codes "'")

-- the place of what is drawn
unfoldable pub place : Spot → List ℕ
place spot = attribute (codes "x") spot.left ++ attribute (codes "y") spot.top

-- a place so far to the right of another one and below it
abbrev pub beside : Spot → ℕ → ℕ → Spot
beside spot right below = record { left = spot.left + right; top = spot.top + below }

-- a rectangle at a place, of a width and a height
unfoldable pub rectangle : Spot → ℕ → ℕ → List ℕ
rectangle spot width height =
    codes "<rect" ++ place spot ++ attribute (codes "width") width ++ attribute (codes "height") height ++ codes "/>"

-- words at a place
unfoldable pub words_begin : Spot → List ℕ
words_begin spot = codes "<text" ++ place spot ++ codes ">"

abbrev pub words_at : Spot → List ℕ → List ℕ
words_at spot words = words_begin spot ++ words ++ codes "</text>"

-- what is drawn under a class, by which it has its colours
unfoldable pub group_begin : List ℕ → List ℕ
group_begin class = codes "<g class='" ++ class ++ codes "'>"

abbrev pub group : List ℕ → List ℕ → List ℕ
group class drawn = group_begin class ++ drawn ++ codes "</g>\n"

-- what a pointer shows
abbrev pub title : List ℕ → List ℕ
title words = codes "<title>" ++ words ++ codes "</title>"

-- a place as a path names it
unfoldable pub point : Spot → List ℕ
point spot = decimal spot.left ++ 44 ∷ decimal spot.top

-- a curve that leaves a cell at its upper edge, and comes to the upper edge of a cell from above
unfoldable pub curve : Spot → Spot → List ℕ
curve from to =
    codes "<path d='M" ++ point (beside from 28 10) ++ codes "C" ++ point (beside from 28 0) ++ codes " "
    ++ point (beside to 12 0) ++ codes " " ++ point (beside to 12 10) ++ codes "'/>"

-- a line below the one before
abbrev pub next_line : List ℕ → List ℕ → List ℕ
next_line class words =
    codes "<tspan class='" ++ class ++ codes "' x='8' dy='20'>" ++ words ++ codes "</tspan>\n"
