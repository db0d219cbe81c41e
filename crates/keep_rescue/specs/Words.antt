-- Losses in words.
use Rattle.std.specs.Prelude.{ℕ, List, codes}
use Rattle.keep_rescue.specs.declared.loss.Loss.{Loss}
use Rattle.keep_rescue.specs.declared.loss.Loss.TheVariants.{NoFile, OtherBytes}

abbrev pub loss_text : Loss → List ℕ
loss_text OtherBytes = codes "its name isn't the SHA-256 of its bytes"
loss_text NoFile = codes "it is neither a file nor a folder"
