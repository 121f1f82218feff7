use Rattle.kept_laws.proofs.HeightLemmas.{one_height, frame_height}
use Rattle.kept_laws.proofs.laws.heights_are_unique.Goals as goal

pub returns-clause-one : goal.returns-clause-one
returns-clause-one c = one_height

pub returns-clause-frames : goal.returns-clause-frames
returns-clause-frames c = frame_height
