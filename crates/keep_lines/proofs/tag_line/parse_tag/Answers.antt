use Rattle.keep_lines.proofs.tag_line.parse_tag.Goals as goal

pub returns-in_default : goal.returns-in_default
returns-in_default c =
    let none = rw c.in_default.is at c.in_ok-filter.ensures in
    λ tag h e. none (tag.filter, tag.words) h e
