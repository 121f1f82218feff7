use Rattle.class_dis.proofs.ListedWhole.{all_whole}
use Rattle.class_dis.proofs.laws.instructions_are_all_listed.Goals as goal

pub returns : goal.returns
returns c = all_whole
