use Rattle.step_laws.proofs.FetchLemmas.{frame_gives, frames_step}
use Rattle.step_laws.proofs.laws.typed_frames_step.Goals as goal

pub returns : goal.returns
returns c = record { values = frame_gives; next = frames_step }
