-- The texts of a node's times, as the code has them.
use Rattle.std.specs.Prelude.{string_bytes}
use Rattle.keep_members.specs.Carried.{TimeTexts as TextsData}
use Rattle.keep_members.specs.declared.time_texts.TimeTexts.{TimeTexts}

abbrev pub texts_view : TimeTexts → TextsData
texts_view texts = record {
  modified = string_bytes texts.modified;
  accessed = string_bytes texts.accessed;
  changed = string_bytes texts.changed;
}
