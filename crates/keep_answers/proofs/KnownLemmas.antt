-- What is written in steps is a first part of all that is to be written.
use Rattle.std.proofs.Common.{◌≡◌, ℕ, List, [], ◌∷◌, ◌++◌, ◌∙◌, take, drop, Result, Ok, Err, refl, sym, ap, subst, append_assoc, append-nil, ◌≢◌, inl, inr, IfErr}
use Rattle.std.proofs.lemmas.List.{take-append-drop}
use Rattle.std.proofs.KnownBytes.{Appends-kept, Appends-trans, Appends-nil}
use Rattle.std.specs.Prelude.{IfSome, Option, None, Some}
use Rattle.std.specs.Io.KnownBytes.{Appends, Keeps}
use Rattle.keep_answers.specs.Known.{AppendsPart, AreLines, Puts, WritesLines}
use Rattle.keep_answers.specs.Known.{line}
use Rattle.keep_answers.specs.declared.halt.Halt.{Halt}
use Rattle.keep_answers.specs.declared.halt.Halt.TheVariants.{BadLine, WriteFailed, NoMemory, Untold}

-- nothing of it
pub AppendsPart-none : (a : Option (List ℕ)) (text : List ℕ) → AppendsPart a a text
AppendsPart-none a text = record { part = []; rest = text; split = refl; appended = Appends-nil a }

-- what was written so far is a first part
pub AppendsPart-from : (a b : Option (List ℕ)) (all done rest : List ℕ) → all ≡ done ++ rest → Appends a b done → AppendsPart a b all
AppendsPart-from a b all done rest e h = record { part = done; rest = rest; split = e; appended = h }

-- and so it is with a first part of what comes next
pub AppendsPart-more : (a b c : Option (List ℕ)) (all done next rest : List ℕ) → all ≡ done ++ (next ++ rest) → Appends a b done → AppendsPart b c next → AppendsPart a c all
AppendsPart-more a b c all done next rest e h k = record {
  part = done ++ k.part;
  rest = k.rest ++ rest;
  split = e ∙ ap (λ l. done ++ (l ++ rest)) k.split ∙ ap (λ l. done ++ l) (append_assoc k.part k.rest rest) ∙ sym (append_assoc done k.part (k.rest ++ rest));
  appended = Appends-trans a b c done k.part h k.appended;
}

-- a write took the first n bytes
pub AppendsPart-taken : (a b : Option (List ℕ)) (bytes : List ℕ) (n : ℕ) → Appends a b (take n bytes) → AppendsPart a b bytes
AppendsPart-taken a b bytes n h = record { part = take n bytes; rest = drop n bytes; split = sym (take-append-drop n bytes); appended = h }

-- ---- what a function puts

-- it found no memory
pub Puts-none : (a b : Option (List ℕ)) (text : List ℕ) (r : Result (Unit {0}) Halt) → r ≡ Err NoMemory → AppendsPart a b text → Puts a b text r
Puts-none a b text r e h = rw e h

-- not even a line could be made of what was to be printed
pub Puts-unmade : (o : Option (List ℕ)) (a : Option (List ℕ)) (r : Result (Unit {0}) Halt) → r ≡ Err NoMemory → IfSome o (λ text. Puts a a (line text) r)
Puts-unmade None a r e = tt
Puts-unmade (Some text) a r e = Puts-none a a (line text) r e (AppendsPart-none a (line text))

-- it failed at the next part of the text
pub Puts-failed : (a b c : Option (List ℕ)) (all done next rest : List ℕ) (stop : Halt) (r : Result (Unit {0}) Halt)
    → all ≡ done ++ (next ++ rest) → Appends a b done → Puts b c next (Err stop) → r ≡ Err stop → Puts a c all r
Puts-failed a b c all done next rest (BadLine why) r e h k same = absurd k
Puts-failed a b c all done next rest WriteFailed r e h k same = rw same (AppendsPart-more a b c all done next rest e h k)
Puts-failed a b c all done next rest NoMemory r e h k same = rw same (AppendsPart-more a b c all done next rest e h k)
Puts-failed a b c all done next rest Untold r e h k same = absurd k

-- it did as the last part of the text did
pub Puts-last : (a b c : Option (List ℕ)) (all done next : List ℕ) (r : Result (Unit {0}) Halt) → all ≡ done ++ next → Appends a b done → Puts b c next r → Puts a c all r
Puts-last a b c all done next (Ok u) e h k = subst (Appends a c) (sym e) (Appends-trans a b c done next h k)
Puts-last a b c all done next (Err stop) e h k = Puts-failed a b c all done next [] stop (Err stop) (e ∙ ap (λ l. done ++ l) (sym (append-nil next))) h k refl

-- it put two texts, one behind the other
pub puts_both : (a b c : Option (List ℕ)) (first last : List ℕ) (r : Result (Unit {0}) Halt) → Appends a b first → Puts b c last r → Puts a c (first ++ last) r
puts_both a b c first last r h k = Puts-last a b c (first ++ last) first last r refl h k

-- ---- whole lines

AreLines-append : (text more : List ℕ) → AreLines text → AreLines more → AreLines (text ++ more)
AreLines-append text more first (inl none) = subst AreLines (sym (ap (λ l. text ++ l) none ∙ append-nil text)) first
AreLines-append text more first (inr (front, ends)) = inr (text ++ front, ap (λ l. text ++ l) ends ∙ sym (append_assoc text front (10 ∷ [])))

pub WritesLines-none : (a : Option (List ℕ)) → WritesLines a a
WritesLines-none a = ([], Appends-nil a, inl refl)

pub WritesLines-trans : (a b c : Option (List ℕ)) → WritesLines a b → WritesLines b c → WritesLines a c
WritesLines-trans a b c (text, h, first) (more, k, next) = (text ++ more, Appends-trans a b c text more h k, AreLines-append text more first next)

pub WritesLines-kept : (a b c : Option (List ℕ)) → WritesLines a b → Keeps b c → WritesLines a c
WritesLines-kept a b c (text, h, lines) kept = (text, Appends-kept a b c text h kept, lines)

pub WritesLines-after : (a b c : Option (List ℕ)) → Keeps a b → WritesLines b c → WritesLines a c
WritesLines-after a b c kept lines = WritesLines-trans a b c (WritesLines-kept a a b (WritesLines-none a) kept) lines

-- a line was put, or a write failed
pub WritesLines-put : (a b : Option (List ℕ)) (text : List ℕ) (r : Result (Unit {0}) Halt) → Puts a b (line text) r → IfErr r (λ stop. stop ≡ WriteFailed) → r ≢ Err WriteFailed → WritesLines a b
WritesLines-put a b text (Ok u) h reason failed = (line text, h, inr (text, refl))
WritesLines-put a b text (Err stop) h reason failed = absurd (failed (ap Err reason))

-- so it was with what an answer prints, where that is known
pub WritesLines-unmade : (o : Option (List ℕ)) (a : Option (List ℕ)) (r : Result (Unit {0}) Halt) → IfSome o (λ text. r ≢ Err WriteFailed → WritesLines a a)
WritesLines-unmade None a r = tt
WritesLines-unmade (Some text) a r = λ failed. WritesLines-none a

pub WritesLines-made : (o : Option (List ℕ)) (a b : Option (List ℕ)) (r : Result (Unit {0}) Halt) → IfSome o (λ text. Puts a b (line text) r) → IfErr r (λ stop. stop ≡ WriteFailed)
    → IfSome o (λ text. r ≢ Err WriteFailed → WritesLines a b)
WritesLines-made None a b r puts reason = tt
WritesLines-made (Some text) a b r puts reason = WritesLines-put a b text r puts reason
