-- `flush_call::keep_labels` meets its contract: every label is meant, none is named, or the filter was run.
use Rattle.flush_call.proofs.Tests.{labels_every, labels_none, none_every, labels_kept}
use Rattle.flush_call.proofs.keep_labels.Goals as goal

pub returns-then-f : goal.returns-then-f
returns-then-f c = search labels_every

pub returns-then-not-f : goal.returns-then-not-f
returns-then-not-f c = search labels_none

pub keep_fines-requires : goal.keep_fines-requires
keep_fines-requires c = search none_every

pub returns : goal.returns
returns c = search labels_kept
