-- Why a line isn't one of the language.
use Rattle.std.specs.Prelude.{◌≡◌, ◌≢◌, ℕ, ◌<◌, ◌⊎◌, List, ◌++◌, codes, length}
use Rattle.std.specs.Fmt.{decimal}
use Rattle.std.specs.Str.Iter.{LacksByte}
use Rattle.keep_names.specs.FileName.{kind_text, IsKind}
use Rattle.keep_names.specs.declared.file_name.Kind.{Kind}
use Rattle.keep_lines.specs.BackupLine.{IsBackup, backup_text}
use Rattle.keep_lines.specs.Command.{IsNoCommand}
use Rattle.keep_lines.specs.ForgetLine.{IsForget, forget_text}
use Rattle.keep_lines.specs.Line.{IsPassedOver, IsText, longest_line}
use Rattle.keep_names.specs.Parses.{NonePrints}
use Rattle.keep_lines.specs.RewriteLine.{IsRewrite, rewrite_text}
use Rattle.keep_lines.specs.TagLine.{IsTag, tag_text}
use Rattle.keep_names.specs.Number.{IsNumber}
use Rattle.keep_lines.specs.Word.{AreBytes, IsName, IsTarget, hex_word, target_text}
use Rattle.keep_lines.specs.declared.mistake.Mistake.{Mistake}
use Rattle.keep_lines.specs.declared.mistake.Mistake.TheVariants.{TooLong, NotText, NoCommand, NotKind, NotHex, NotNumber, NotName, NotTarget, NotBackup, NotTag, NotForget, NotRewrite, NoFilter, NoFile, NoNote, NoHook}

-- what an operator is told
abbrev pub mistake_text : Mistake → List ℕ
mistake_text TooLong = codes "more than 1,048,576 bytes"
mistake_text NotText = codes "not a line of text"
mistake_text NoCommand = codes "no such command"
mistake_text NotKind = codes "KIND is pack, index or snapshot"
mistake_text NotHex = codes "HEX isn't lower case hex"
mistake_text NotNumber = codes "N isn't a number"
mistake_text NotName = codes "NAME isn't a name"
mistake_text NotTarget = codes "neither 64 digits nor @N"
mistake_text NotBackup = codes "not HOST TIME PATH=HEX .."
mistake_text NotTag = codes "not FILTER, and words +T, -T or =T"
mistake_text NotForget = codes "not FILTER, and rules last=N .. yearly=N once each, or tag=T"
mistake_text NotRewrite = codes "not FILTER PATTERN .. or FILTER forget PATTERN .."
mistake_text NoFilter = codes "no such FILTER"
mistake_text NoFile = codes "@N names nothing"
mistake_text NoNote = codes "no note of this NAME"
mistake_text NoHook = codes "no veto or watch of this NAME"

-- behind these words a number is asked for
abbrev pub AsksNumber : List ℕ → Type 0
AsksNumber verb =
    (verb ≡ codes "undo") ⊎ ((verb ≡ codes "redo") ⊎ ((verb ≡ codes "empty")
    ⊎ ((verb ≡ codes "cascade") ⊎ (verb ≡ codes "sweep"))))

-- behind these, a name
abbrev pub AsksName : List ℕ → Type 0
AsksName verb = (verb ≡ codes "note") ⊎ ((verb ≡ codes "same") ⊎ (verb ≡ codes "arm"))

-- behind these, a kind and one word more
abbrev pub AsksKind : List ℕ → Type 0
AsksKind verb = (verb ≡ codes "add") ⊎ (verb ≡ codes "drop")

-- behind the first of them and a kind, bytes
abbrev pub AsksHex : List ℕ → Type 0
AsksHex front = (kind : Kind) × (front ≡ codes "add " ++ kind_text kind)

-- behind the second and a kind, and behind a restore, an id or the number of a change
abbrev pub AsksTarget : List ℕ → Type 0
AsksTarget front = (front ≡ codes "restore") ⊎ ((kind : Kind) × (front ≡ codes "drop " ++ kind_text kind))

-- behind this word, a host, a time and files
abbrev pub AsksBackup : List ℕ → Type 0
AsksBackup verb = verb ≡ codes "backup"

-- behind this, a filter and signed words
abbrev pub AsksTag : List ℕ → Type 0
AsksTag verb = verb ≡ codes "tag"

-- behind this, a filter and rules
abbrev pub AsksForget : List ℕ → Type 0
AsksForget verb = verb ≡ codes "forget"

-- behind this, a filter and patterns, maybe with `forget` between
abbrev pub AsksRewrite : List ℕ → Type 0
AsksRewrite verb = verb ≡ codes "rewrite"

-- behind these, any number of words
abbrev pub AsksWords : List ℕ → Type 0
AsksWords verb = AsksBackup verb ⊎ (AsksTag verb ⊎ (AsksForget verb ⊎ AsksRewrite verb))

-- behind such a front, and a space, the last words of a line stand: it is one word, or two where a kind is asked for
abbrev pub AsksMore : List ℕ → Type 0
AsksMore front =
    AsksNumber front ⊎ (AsksName front ⊎ (AsksWords front ⊎ ((front ≡ codes "restore")
    ⊎ ((verb word : List ℕ) × AsksKind verb × (front ≡ verb ++ (codes " " ++ word))))))

-- the text has no such front
abbrev pub BeginsAsNone : List ℕ → Type 0
BeginsAsNone text = (front rest : List ℕ) → AsksMore front → text ≢ front ++ (codes " " ++ rest)

-- behind a front that asks for a value, and a space, stands what none of the values that count prints as
abbrev pub EndsInNo : {A : Type 0} → (List ℕ → Type 0) → (A → Type 0) → (A → List ℕ) → List ℕ → Type 0
EndsInNo AsksIt Counts print text =
    (front rest : List ℕ) × AsksIt front × (text ≡ front ++ (codes " " ++ rest)) × NonePrints Counts print rest

-- a kind is asked for, and the second word of three is none
abbrev pub HasNoKind : List ℕ → Type 0
HasNoKind text =
    (verb word rest : List ℕ) × AsksKind verb × LacksByte 32 word
    × (text ≡ verb ++ (codes " " ++ (word ++ (codes " " ++ rest)))) × NonePrints IsKind kind_text word

-- why a text is no command's, by the words that it begins with
abbrev pub Explains : List ℕ → Mistake → Type 0
Explains text TooLong = ⊥
Explains text NotText = ⊥
Explains text NoCommand = BeginsAsNone text
Explains text NotKind = HasNoKind text
Explains text NotHex = EndsInNo AsksHex AreBytes hex_word text
Explains text NotNumber = EndsInNo AsksNumber IsNumber decimal text
Explains text NotName = EndsInNo AsksName IsName (λ name. name) text
Explains text NotTarget = EndsInNo AsksTarget IsTarget target_text text
Explains text NotBackup = EndsInNo AsksBackup IsBackup backup_text text
Explains text NotTag = EndsInNo AsksTag IsTag tag_text text
Explains text NotForget = EndsInNo AsksForget IsForget forget_text text
Explains text NotRewrite = EndsInNo AsksRewrite IsRewrite rewrite_text text
Explains text NoFilter = ⊥
Explains text NoFile = ⊥
Explains text NoNote = ⊥
Explains text NoHook = ⊥

-- a line isn't one of the language, for this cause: it is too long, or no text, or no command's for what is said
abbrev pub IsMistake : List ℕ → Mistake → Type 0
IsMistake line why =
    ((why ≡ TooLong) × (longest_line < length line))
    ⊎ (((why ≡ NotText) × (¬ (IsText line)))
    ⊎ (IsText line × (¬ (IsPassedOver line)) × IsNoCommand line × Explains line why))
