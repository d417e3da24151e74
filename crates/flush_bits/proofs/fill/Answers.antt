-- `flush_bits::fill` meets its contract: its bytes are full, and those before and after them as they were.
use Rattle.flush_bits.proofs.Laws.{filled}
use Rattle.flush_bits.proofs.fill.Goals as goal

pub returns : goal.returns
returns c = filled c.args.s.now c.fill.new.self c.args.a c.args.b c.requires.0 c.requires.1 (c.fill.ensures.after (λ y e. e))
