use Rattle.std.proofs.Common.{◌≡◌, ◌∙◌, Some, refl, sym, ap, subst}
use Rattle.keep_files.specs.Stands.{is_folder}
use Rattle.keep_files.specs.declared.node.Node.TheVariants.{Folder}
use Rattle.keep_memory_files.proofs.Putting.{folder_there}
use Rattle.keep_memory_files.specs.Memory.{standing}
use Rattle.keep_memory_files.proofs.memory.MemoryTree.has_home.Goals as goal

pub returns-in-Some : goal.returns-in-Some
returns-in-Some c =
    let stands = standing c.args.self.now.nodes in
    let home = c.in-Some.home.now in (
      λ told folder lies.
          let same : home ≡ folder = cc (c.in-Some.ensures.only folder lies) in
          subst (λ p. stands p ≡ Some Folder) same (folder_there (stands home) (sym c.is_folder.ensures ∙ told)),
      λ h. c.is_folder.ensures ∙ ap is_folder (h home c.in-Some.ensures.home),
    )

pub returns-in-None : goal.returns-in-None
returns-in-None c = (λ told folder lies. cc (c.in-None.ensures.only folder lies), λ h. refl)
