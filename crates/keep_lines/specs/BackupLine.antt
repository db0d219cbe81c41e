-- What a line says that backs files up.
use Rattle.std.specs.Prelude.{ℕ, List, ◌∷◌, ◌++◌, String, codes, string_bytes}
use Rattle.std.specs.Global.{Global, Vec}
use Rattle.std.specs.List.{join_with_byte}
use Rattle.std.specs.Str.Iter.{LacksByte}
use Rattle.keep_lines.specs.declared.backup_line.BackupLine.{BackupLine}
use Rattle.keep_lines.specs.Word.{AreBytes, hex_word}
use Rattle.keep_lines.specs.WordList.{AreAll, IsWord, words_for}

-- the word for a file: its path, `=`, and its bytes in hex
abbrev pub file_word : String Global × Vec ℕ → List ℕ
file_word file = string_bytes file.0 ++ (codes "=" ++ hex_word file.1)

-- a file whose word has no space
abbrev pub IsFile : String Global × Vec ℕ → Type 0
IsFile file = LacksByte 32 (file_word file) × AreBytes file.1

-- the words of a backup: the host, the time, and the files
abbrev pub backup_words : BackupLine → List (List ℕ)
backup_words backup = string_bytes backup.host ∷ string_bytes backup.time ∷ words_for file_word backup.files

-- these, with single spaces between
abbrev pub backup_text : BackupLine → List ℕ
backup_text backup = join_with_byte 32 (backup_words backup)

-- a backup whose words are words
abbrev pub IsBackup : BackupLine → Type 0
IsBackup backup = IsWord (string_bytes backup.host) × IsWord (string_bytes backup.time) × AreAll IsFile backup.files
