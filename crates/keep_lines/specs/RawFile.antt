-- The lines that add or drop a file by itself.
use Rattle.std.specs.Prelude.{ℕ, List, ◌++◌, codes}
use Rattle.keep_names.specs.FileName.{kind_text}
use Rattle.keep_lines.specs.Word.{AreBytes, IsTarget, hex_word, target_text}
use Rattle.keep_lines.specs.declared.raw_file.RawFile.{RawFile}
use Rattle.keep_lines.specs.declared.raw_file.RawFile.TheVariants.{Add, Drop}

-- `add KIND HEX` or `drop KIND FILE`
abbrev pub raw_file_text : RawFile → List ℕ
raw_file_text (Add kind bytes) = codes "add " ++ (kind_text kind ++ (codes " " ++ hex_word bytes))
raw_file_text (Drop kind target) = codes "drop " ++ (kind_text kind ++ (codes " " ++ target_text target))

-- its bytes, or the file that it means, are in range
abbrev pub IsRawFile : RawFile → Type 0
IsRawFile (Add kind bytes) = AreBytes bytes
IsRawFile (Drop kind target) = IsTarget target
