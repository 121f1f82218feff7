use Rattle.std.proofs.Common.{◌≡◌, ◌∙◌, false, true, List, ℕ, Ok, Err, subst}
use Rattle.joana_base.specs.Files.{names_of}
use Rattle.joana_base.specs.Files.{is_large}
use Rattle.joana_base.specs.Reading.{all_bytes, third_bytes, ReadsList}
use Rattle.joana_base.proofs.ReadFiles.{holds_as, large_policy, large_list, program_read, list_stopped}
use Rattle.joana_base.proofs.reading.read_program.Goals.{then-is_large-via-then-is_large, then-is_large-via-else-is_large+then-is_large-2}
use Rattle.joana_base.proofs.reading.read_program.Goals as goal

pub returns-then-is_large-clause-read : goal.returns-then-is_large-clause-read
returns-then-is_large-clause-read g c =
    let held = g.F.Files.held c.args.files.now in
    let names = names_of c.args.names in
    let has_list = holds_as held (g.F.Files.held c.read_file.new.files) c.in-Ok.ensures.held names.classes c.in-Ok-read_file.list.items c.in-Ok-read_file.ensures.read in
    let Large : List ℕ → Type 0 = λ bytes. true ≡ is_large bytes in
    elim c.then-is_large.branch [
      | then-is_large-via-then-is_large w ↦ large_policy held names c.in-Ok.policy.items c.in-Ok-read_file.list.items c.in-Ok.ensures.read has_list (subst Large c.as_slice.ensures.value w.if-is_large.ensures)
      | then-is_large-via-else-is_large+then-is_large-2 w ↦
          large_list held names c.in-Ok.policy.items c.in-Ok-read_file.list.items c.in-Ok.ensures.read has_list (subst Large w.as_slice-else-is_large.ensures.value w.if-is_large-2.ensures)
    ]

pub returns-in-Ok-read_list-clause-read : goal.returns-in-Ok-read_list-clause-read
returns-in-Ok-read_list-clause-read g c =
    let held = g.F.Files.held c.args.files.now in
    let between = g.F.Files.held c.read_file.new.files in
    let later = g.F.Files.held c.read_file-2.new.files in
    let names = names_of c.args.names in
    let has_list = holds_as held between c.in-Ok.ensures.held names.classes c.in-Ok-read_file.list.items c.in-Ok-read_file.ensures.read in
    let Small : List ℕ → Type 0 = λ bytes. false ≡ is_large bytes in
    let Reads : List ℕ → Type 0 = λ list. ReadsList later names.third list (Ok c.in-Ok-read_list.behind) in
    program_read held names c.in-Ok.policy.items c.in-Ok-read_file.list.items c.in-Ok.ensures.read has_list later (λ name. c.in-Ok-read_file.ensures.held name ∙ c.in-Ok.ensures.held name)
    (subst Small c.as_slice.ensures.value c.if-is_large.ensures) (subst Small c.as_slice-else-is_large.ensures.value c.if-is_large-2.ensures) (third_bytes c.in-Ok-read_list.behind.third) (all_bytes c.in-Ok-read_list.behind.classes.items)
    (subst Reads c.as_slice-2.ensures.value c.in-Ok-read_list.ensures.read)

pub returns-in-Err-read_list-clause-read : goal.returns-in-Err-read_list-clause-read
returns-in-Err-read_list-clause-read g c =
    let held = g.F.Files.held c.args.files.now in
    let between = g.F.Files.held c.read_file.new.files in
    let later = g.F.Files.held c.read_file-2.new.files in
    let names = names_of c.args.names in
    let has_list = holds_as held between c.in-Ok.ensures.held names.classes c.in-Ok-read_file.list.items c.in-Ok-read_file.ensures.read in
    let Small : List ℕ → Type 0 = λ bytes. false ≡ is_large bytes in
    let Reads : List ℕ → Type 0 = λ list. ReadsList later names.third list (Err c.in-Err-read_list.stop) in
    list_stopped held names c.in-Ok.policy.items c.in-Ok-read_file.list.items c.in-Ok.ensures.read has_list later (λ name. c.in-Ok-read_file.ensures.held name ∙ c.in-Ok.ensures.held name)
    (subst Small c.as_slice.ensures.value c.if-is_large.ensures) (subst Small c.as_slice-else-is_large.ensures.value c.if-is_large-2.ensures) c.in-Err-read_list.stop
    (subst Reads c.as_slice-2.ensures.value c.in-Err-read_list.ensures.read)
