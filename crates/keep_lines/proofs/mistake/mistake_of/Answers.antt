use Rattle.std.proofs.Common.{◌≡◌, ℕ, inl, inr, List, ◌∷◌, ◌++◌, codes, Some, refl, ap, ◌∙◌}
use Rattle.std.specs.Fmt.{decimal}
use Rattle.keep_lines.specs.declared.job_line.JobLine.TheVariants.{Backup, Forget, Rewrite, Sweep, Tag}
use Rattle.keep_lines.proofs.Mistakes.{cut_first, ends_in_no}
use Rattle.keep_lines.specs.BackupLine.{IsBackup, backup_text}
use Rattle.keep_lines.specs.ForgetLine.{IsForget, forget_text}
use Rattle.keep_lines.specs.Mistake.{AsksBackup, AsksForget, AsksName, AsksNumber, AsksRewrite, AsksTag, AsksTarget}
use Rattle.keep_lines.specs.RewriteLine.{IsRewrite, rewrite_text}
use Rattle.keep_lines.specs.TagLine.{IsTag, tag_text}
use Rattle.keep_names.specs.Number.{IsNumber}
use Rattle.keep_lines.specs.Word.{IsName, IsTarget, target_text}
use Rattle.keep_lines.specs.declared.command.Command.TheVariants.{Arm, Cascade, Job, Note, Question, Revision}
use Rattle.keep_lines.specs.declared.question.Question.TheVariants.{Restore, Same}
use Rattle.keep_lines.specs.declared.revision.Revision.TheVariants.{Empty, Redo, Undo}
use Rattle.keep_lines.proofs.mistake.mistake_of.Goals as goal

pub returns-in-undo : goal.returns-in-undo
returns-in-undo c =
    let text = c.args.text.now in
    let cut = cut_first text c.split_once.result _ c.split_once.ensures.cases c.in-Some.is in
    let split : text ≡ codes "undo" ++ 32 ∷ c.in-Some.rest.now = cut ∙ ap (λ (v : List ℕ). v ++ 32 ∷ c.in-Some.rest.now) c.in-undo.is-undo in
    ends_in_no AsksNumber IsNumber decimal (λ n. Revision (Undo n)) (codes "undo") text c.in-Some.rest.now (inl refl) c.requires split (λ value is. is) (λ value. refl)

pub returns-in-undo-2 : goal.returns-in-undo-2
returns-in-undo-2 c =
    let text = c.args.text.now in
    let cut = cut_first text c.split_once.result _ c.split_once.ensures.cases c.in-Some.is in
    let split : text ≡ codes "redo" ++ 32 ∷ c.in-Some.rest.now = cut ∙ ap (λ (v : List ℕ). v ++ 32 ∷ c.in-Some.rest.now) c.in-undo.is-redo in
    ends_in_no AsksNumber IsNumber decimal (λ n. Revision (Redo n)) (codes "redo") text c.in-Some.rest.now (inr (inl refl)) c.requires split (λ value is. is) (λ value. refl)

pub returns-in-undo-3 : goal.returns-in-undo-3
returns-in-undo-3 c =
    let text = c.args.text.now in
    let cut = cut_first text c.split_once.result _ c.split_once.ensures.cases c.in-Some.is in
    let split : text ≡ codes "empty" ++ 32 ∷ c.in-Some.rest.now = cut ∙ ap (λ (v : List ℕ). v ++ 32 ∷ c.in-Some.rest.now) c.in-undo.is-empty in
    ends_in_no AsksNumber IsNumber decimal (λ n. Revision (Empty n)) (codes "empty") text c.in-Some.rest.now (inr (inr (inl refl))) c.requires split (λ value is. is) (λ value. refl)

pub returns-in-undo-4 : goal.returns-in-undo-4
returns-in-undo-4 c =
    let text = c.args.text.now in
    let cut = cut_first text c.split_once.result _ c.split_once.ensures.cases c.in-Some.is in
    let split : text ≡ codes "cascade" ++ 32 ∷ c.in-Some.rest.now = cut ∙ ap (λ (v : List ℕ). v ++ 32 ∷ c.in-Some.rest.now) c.in-undo.is-cascade in
    ends_in_no AsksNumber IsNumber decimal (λ n. Cascade n) (codes "cascade") text c.in-Some.rest.now (inr (inr (inr (inl refl)))) c.requires split (λ value is. is) (λ value. refl)

pub returns-in-undo-5 : goal.returns-in-undo-5
returns-in-undo-5 c =
    let text = c.args.text.now in
    let cut = cut_first text c.split_once.result _ c.split_once.ensures.cases c.in-Some.is in
    let split : text ≡ codes "sweep" ++ 32 ∷ c.in-Some.rest.now = cut ∙ ap (λ (v : List ℕ). v ++ 32 ∷ c.in-Some.rest.now) c.in-undo.is-sweep in
    ends_in_no AsksNumber IsNumber decimal (λ n. Job (Sweep (Some n))) (codes "sweep") text c.in-Some.rest.now (inr (inr (inr (inr refl)))) c.requires split (λ value is. is) (λ value. refl)

pub returns-in-note : goal.returns-in-note
returns-in-note c =
    let text = c.args.text.now in
    let cut = cut_first text c.split_once.result _ c.split_once.ensures.cases c.in-Some.is in
    let split : text ≡ codes "note" ++ 32 ∷ c.in-Some.rest.now = cut ∙ ap (λ (v : List ℕ). v ++ 32 ∷ c.in-Some.rest.now) c.in-note.is-note in
    ends_in_no AsksName IsName (λ name. name) (λ name. Note (record { ref_ptr = (0, 0); now = name })) (codes "note") text c.in-Some.rest.now (inl refl) c.requires split (λ value is. is) (λ value. refl)

pub returns-in-note-2 : goal.returns-in-note-2
returns-in-note-2 c =
    let text = c.args.text.now in
    let cut = cut_first text c.split_once.result _ c.split_once.ensures.cases c.in-Some.is in
    let split : text ≡ codes "same" ++ 32 ∷ c.in-Some.rest.now = cut ∙ ap (λ (v : List ℕ). v ++ 32 ∷ c.in-Some.rest.now) c.in-note.is-same in
    ends_in_no AsksName IsName (λ name. name) (λ name. Question (Same (record { ref_ptr = (0, 0); now = name }))) (codes "same") text c.in-Some.rest.now (inr (inl refl)) c.requires split (λ value is. is) (λ value. refl)

pub returns-in-note-3 : goal.returns-in-note-3
returns-in-note-3 c =
    let text = c.args.text.now in
    let cut = cut_first text c.split_once.result _ c.split_once.ensures.cases c.in-Some.is in
    let split : text ≡ codes "arm" ++ 32 ∷ c.in-Some.rest.now = cut ∙ ap (λ (v : List ℕ). v ++ 32 ∷ c.in-Some.rest.now) c.in-note.is-arm in
    ends_in_no AsksName IsName (λ name. name) (λ name. Arm (record { ref_ptr = (0, 0); now = name })) (codes "arm") text c.in-Some.rest.now (inr (inr refl)) c.requires split (λ value is. is) (λ value. refl)

pub returns-in-restore : goal.returns-in-restore
returns-in-restore c =
    let text = c.args.text.now in
    let cut = cut_first text c.split_once.result _ c.split_once.ensures.cases c.in-Some.is in
    let split : text ≡ codes "restore" ++ 32 ∷ c.in-Some.rest.now = cut ∙ ap (λ (v : List ℕ). v ++ 32 ∷ c.in-Some.rest.now) c.in-restore.is in
    ends_in_no AsksTarget IsTarget target_text (λ target. Question (Restore target)) (codes "restore") text c.in-Some.rest.now (inl refl) c.requires split (λ value is. is) (λ value. refl)

pub returns-in-backup : goal.returns-in-backup
returns-in-backup c =
    let text = c.args.text.now in
    let cut = cut_first text c.split_once.result _ c.split_once.ensures.cases c.in-Some.is in
    let split : text ≡ codes "backup" ++ 32 ∷ c.in-Some.rest.now = cut ∙ ap (λ (v : List ℕ). v ++ 32 ∷ c.in-Some.rest.now) c.in-backup.is in
    ends_in_no AsksBackup IsBackup backup_text (λ backup. Job (Backup backup)) (codes "backup") text c.in-Some.rest.now refl c.requires split (λ value is. is) (λ value. refl)

pub returns-in-tag : goal.returns-in-tag
returns-in-tag c =
    let text = c.args.text.now in
    let cut = cut_first text c.split_once.result _ c.split_once.ensures.cases c.in-Some.is in
    let split : text ≡ codes "tag" ++ 32 ∷ c.in-Some.rest.now = cut ∙ ap (λ (v : List ℕ). v ++ 32 ∷ c.in-Some.rest.now) c.in-tag.is in
    ends_in_no AsksTag IsTag tag_text (λ tag. Job (Tag tag)) (codes "tag") text c.in-Some.rest.now refl c.requires split (λ value is. is) (λ value. refl)

pub returns-in-forget : goal.returns-in-forget
returns-in-forget c =
    let text = c.args.text.now in
    let cut = cut_first text c.split_once.result _ c.split_once.ensures.cases c.in-Some.is in
    let split : text ≡ codes "forget" ++ 32 ∷ c.in-Some.rest.now = cut ∙ ap (λ (v : List ℕ). v ++ 32 ∷ c.in-Some.rest.now) c.in-forget.is in
    ends_in_no AsksForget IsForget forget_text (λ forget. Job (Forget forget)) (codes "forget") text c.in-Some.rest.now refl c.requires split (λ value is. is) (λ value. refl)

pub returns-in-rewrite : goal.returns-in-rewrite
returns-in-rewrite c =
    let text = c.args.text.now in
    let cut = cut_first text c.split_once.result _ c.split_once.ensures.cases c.in-Some.is in
    let split : text ≡ codes "rewrite" ++ 32 ∷ c.in-Some.rest.now = cut ∙ ap (λ (v : List ℕ). v ++ 32 ∷ c.in-Some.rest.now) c.in-rewrite.is in
    ends_in_no AsksRewrite IsRewrite rewrite_text (λ rewrite. Job (Rewrite rewrite)) (codes "rewrite") text c.in-Some.rest.now refl c.requires split (λ value is. is) (λ value. refl)
