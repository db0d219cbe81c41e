-- The policy that rules make.
use Rattle.std.specs.Prelude.{ℕ, List, [], ◌∷◌, Option, Some, None, string_bytes}
use Rattle.std.specs.List.{filter_map}
use Rattle.keep_lines.specs.declared.forget_line.Rule.{Rule}
use Rattle.keep_lines.specs.declared.forget_line.Rule.TheVariants as rule
use Rattle.keep_lines.specs.declared.forget_line.Span.{Span}
use Rattle.keep_lines.specs.declared.forget_line.Span.TheVariants.{Last, Day, Week, Month, Year}
use Rattle.keep_labels.specs.Keeping.{PolicyData}

-- the count of a rule that counts these
abbrev pub counted_by : Span → Rule → Option ℕ
counted_by Last (rule.Last count) = Some count.number
counted_by Day (rule.Daily count) = Some count.number
counted_by Week (rule.Weekly count) = Some count.number
counted_by Month (rule.Monthly count) = Some count.number
counted_by Year (rule.Yearly count) = Some count.number
counted_by _ _ = None

-- a count, or else another
abbrev pub or_else : Option ℕ → Option ℕ → Option ℕ
or_else (Some count) other = Some count
or_else None other = other

-- the count of the first rule that counts these
abbrev pub count_in : Span → List Rule → Option ℕ
count_in span [] = None
count_in span (r ∷ rules) = or_else (counted_by span r) (count_in span rules)

-- the tag that a rule names
abbrev pub kept_by : Rule → Option (List ℕ)
kept_by (rule.Tag tag) = Some (string_bytes tag)
kept_by _ = None

-- each count that the rules name, and their tags
abbrev pub policy_data : List Rule → PolicyData
policy_data rules = record {
  last = count_in Last rules;
  daily = count_in Day rules;
  weekly = count_in Week rules;
  monthly = count_in Month rules;
  yearly = count_in Year rules;
  tags = filter_map kept_by rules;
}
