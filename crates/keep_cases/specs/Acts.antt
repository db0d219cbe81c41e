-- The acts of which a shelf in memory keeps its record, and what they leave.
use Rattle.std.specs.Prelude.{List, fold}
use Rattle.std.specs.FinMap as map
use Rattle.std.specs.List.{scan}
use Rattle.keep_shelf.specs.Shelved.{Content, shifted}
use Rattle.keep_cases.specs.declared.shelves.act.Act.{Act}
use Rattle.keep_cases.specs.declared.shelves.act.Act.TheVariants.{Looked, Wrote, Shifted, Erased}

-- what the act leaves
abbrev pub done : Content → Act → Content
done content Looked = content
done content (Wrote key bytes) = map.insert content key bytes
done content (Shifted from to) = shifted content from to
done content (Erased key) = map.remove content key

-- what all of them leave, one after another
abbrev pub content_after : Content → List Act → Content
content_after made acts = fold done made acts

-- what each of them leaves
abbrev pub contents_after : Content → List Act → List Content
contents_after made acts = scan done done made acts
