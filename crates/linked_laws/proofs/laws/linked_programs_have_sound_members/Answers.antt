use Rattle.linked_laws.proofs.MemberLemmas.{sound_members}
use Rattle.linked_laws.proofs.laws.linked_programs_have_sound_members.Goals as goal

pub returns : goal.returns
returns c = sound_members
