use Rattle.version_index.proofs.mentioning.mention.Goals as goal

pub returns : goal.returns
returns c =
    let once = c.raise_existing.ensures in
    let both = c.raise_existing-2.ensures in
    record {
      once = c.raise_existing.new.mentions.items;
      size_once = once.size;
      size_new = both.size;
      own = rw c.name.ensures at once.raised;
      linked = both.raised;
    }
