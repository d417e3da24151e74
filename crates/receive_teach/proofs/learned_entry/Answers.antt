-- `receive_teach::learned_entry` meets its contract: the numbers fit, and are those of the settings and the frame.
use Rattle.receive_teach.proofs.Laws.{learned_is}
use Rattle.receive.proofs.Outcomes.{settings_fit}
use Rattle.frame.specs.Settings.{default_life}
use native.Mathlib.Omega.{arith}
use Rattle.receive_teach.proofs.learned_entry.Goals as goal

pub overflow_cast-result-2 : goal.overflow_cast-result-2
overflow_cast-result-2 c = let h = settings_fit default_life c.args.s (omega arith) c.requires.0 in record { fits = omega (arith, h.0) }

pub overflow_cast-result-3 : goal.overflow_cast-result-3
overflow_cast-result-3 c = let h = settings_fit default_life c.args.s (omega arith) c.requires.0 in let e = c.life_of.ensures in record { fits = omega (arith, h.1, e) }

pub returns : goal.returns
returns c = let a = c.args in
    let h = c.requires in
    learned_is a.s a.label a.mac a.nickname _ a.mark h.0 h.1.0 h.1.1.0 c.life_of.ensures
