use Rattle.kept_laws.proofs.laws.thrown_objects_are_throwables.Goals as goal

pub returns : goal.returns
returns c = λ program s state t thread a at is. (state.threads t thread at).thrown a is
