-- `watch_time::stop_of` meets its contract: each kind has its stop.
use Rattle.watch_time.proofs.Laws.{stop_native, stop_bpdu, stop_twice}
use Rattle.watch_time.proofs.stop_of.Goals as goal

pub returns-then-kind-eq-NATIVE_FRAME : goal.returns-then-kind-eq-NATIVE_FRAME
returns-then-kind-eq-NATIVE_FRAME c = search stop_native

pub returns-then-kind-eq-BRIDGE_BPDU : goal.returns-then-kind-eq-BRIDGE_BPDU
returns-then-kind-eq-BRIDGE_BPDU c = search stop_bpdu

pub returns : goal.returns
returns c = search stop_twice
