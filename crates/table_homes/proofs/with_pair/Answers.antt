-- `table_homes::with_pair` meets its contract: what the record is decides which test it passes.
use Rattle.table_homes.proofs.Laws.{with_free, with_spoilt, with_learned, with_configured}
use Rattle.table_homes.proofs.with_pair.Goals as goal

pub returns-in-Free : goal.returns-in-Free
returns-in-Free c = with_free _ _ _ _ c.in-Free.is

pub returns-in-Spoilt : goal.returns-in-Spoilt
returns-in-Spoilt c = with_spoilt _ _ _ _ c.in-Spoilt.is

pub returns-in-Learned : goal.returns-in-Learned
returns-in-Learned c = with_learned _ _ _ _ c.requires.1 _ _ c.in-Learned.is c.with_home.ensures

pub returns-in-Configured : goal.returns-in-Configured
returns-in-Configured c = with_configured _ _ _ _ c.requires.1 _ _ c.in-Configured.is c.with_home-in-Configured.ensures
