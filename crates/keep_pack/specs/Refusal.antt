-- The words and the numbers by which operators know why a pack's header can't be read.
use Rattle.std.specs.Prelude.{ℕ, List, codes, Option, Some, None}
use Rattle.keep_pack.specs.declared.pack_error.PackError.{PackError}
use Rattle.keep_pack.specs.declared.pack_error.PackError.TheVariants.{ShortPack, BadHeaderLength, BadBlobType}
use Rattle.keep_pack.specs.declared.pack_error.PackError.TheVariants.{LengthsDontFit, Memory}

-- the number; want of memory has none
abbrev pub pack_number : PackError → Option ℕ
pack_number ShortPack = Some 4
pack_number BadHeaderLength = Some 5
pack_number BadBlobType = Some 6
pack_number LengthsDontFit = Some 7
pack_number Memory = None

-- the word that is printed
abbrev pub pack_word : PackError → List ℕ
pack_word ShortPack = codes "ShortPack"
pack_word BadHeaderLength = codes "BadHeaderLength"
pack_word BadBlobType = codes "BadBlobType"
pack_word LengthsDontFit = codes "LengthsDontFit"
pack_word Memory = codes "Memory"
