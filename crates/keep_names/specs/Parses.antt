-- What a parser answers for a text: a value that prints as it, and none only where no value does.
use Rattle.std.specs.Prelude.{◌≡◌, ◌≢◌, Option, Some, None}

-- none of the values that count prints as this text
abbrev pub NonePrints : {A T : Type 0} → (A → Type 0) → (A → T) → T → Type 0
NonePrints {A} Counts print text = (value : A) → Counts value → print value ≢ text

-- what was found is a value that counts and prints as this text, or none does
abbrev pub Parses : {A T : Type 0} → (A → Type 0) → (A → T) → T → Option A → Type 0
Parses Counts print text (Some value) = Counts value × (print value ≡ text)
Parses Counts print text None = NonePrints Counts print text
