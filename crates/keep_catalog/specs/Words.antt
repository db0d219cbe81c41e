-- The words and the numbers by which operators know why a file can't be read or a blob can't be had.
use Rattle.std.specs.Prelude.{ℕ, List, ◌++◌, codes, Option, Some, None}
use Rattle.keep_names.specs.FileName.{file_name_text}
use Rattle.keep_names.specs.Id.{id_text}
use Rattle.keep_pack.specs.Refusal.{pack_number, pack_word}
use Rattle.keep_index.specs.Refusal.{index_number, index_word}
use Rattle.keep_snap.specs.Refusal.{snap_number, snap_word}
use Rattle.keep_catalog.specs.declared.reach_error.ReachError.{ReachError}
use Rattle.keep_catalog.specs.declared.reach_error.ReachError.TheVariants as reach
use Rattle.keep_catalog.specs.declared.unread.FileError.{FileError}
use Rattle.keep_catalog.specs.declared.unread.FileError.TheVariants as file
use Rattle.keep_catalog.specs.declared.unread.Unread.{Unread}

-- why a file can't be read: the number and the word of its reader's refusal
abbrev pub file_number : FileError → Option ℕ
file_number (file.Pack why) = pack_number why
file_number (file.Index why) = index_number why
file_number (file.Snap why) = snap_number why

abbrev pub file_word : FileError → List ℕ
file_word (file.Pack why) = pack_word why
file_word (file.Index why) = index_word why
file_word (file.Snap why) = snap_word why

-- a file that can't be read: the word, and the file's name
abbrev pub unread_text : Unread → List ℕ
unread_text unread = file_word unread.refusal ++ codes " " ++ file_name_text unread.name

-- why a blob can't be had; want of memory has no number
abbrev pub reach_number : ReachError → Option ℕ
reach_number reach.BadTree = Some 8
reach_number (reach.MissingBlob id) = Some 13
reach_number reach.TooDeep = Some 14
reach_number (reach.WrongHash id) = Some 35
reach_number reach.Memory = None

-- the word, and the blob's id where it has one
abbrev pub reach_text : ReachError → List ℕ
reach_text reach.BadTree = codes "BadTree"
reach_text (reach.MissingBlob id) = codes "MissingBlob " ++ id_text id
reach_text reach.TooDeep = codes "TooDeep"
reach_text (reach.WrongHash id) = codes "WrongHash " ++ id_text id
reach_text reach.Memory = codes "Memory"
