-- `flush_payload::note` meets its contract, field by field.
use mathlib.Core.Path.{refl}
use Rattle.flush_payload.proofs.Judging.{noted_more}
use Rattle.flush_payload.proofs.note.Goals as goal

pub returns : goal.returns
returns c = noted_more _ _ _ refl refl refl refl refl refl
