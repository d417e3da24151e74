-- `flush_tlvs::some_tlv` meets its contract. The invariant: some TLV passes exactly if one from `at` on does.
use mathlib.Core.Path.{refl, sym}
use Rattle.flush_tlvs.proofs.Laws.{tlvs_done_lem, tlv_cut, tlv_hit, tlv_next}
use borrow.Author.Rules.{rules}
use Rattle.flush_tlvs.proofs.some_tlv.Goals as goal

pub loop-at-init : goal.loop-at-init
loop-at-init g c = (search rules, λ ask none tells. refl)

pub returns-then-l-e : goal.returns-then-l-e
returns-then-l-e g c = λ ask none tells. let inv = c.loop-at.invariant.1 ask none tells in tlv_cut ask _ _ _ inv c.loop-at-test.true _ c.end_of-e.ensures c.if-l-e.true (sym none)

pub returns-then-test : goal.returns-then-test
returns-then-test g c = λ ask none tells.
    let inv = c.loop-at.invariant.1 ask none tells in
    tlv_hit ask _ _ _ inv c.loop-at-test.true _ c.end_of-e.ensures c.if-l-e.false _ (tells _ _ _ c.test.ensures) c.if-test.true

pub loop-at-preserved : goal.loop-at-preserved
loop-at-preserved g c = (
  c.if-l-e.false,
  λ ask none tells.
      let inv = c.loop-at.invariant.1 ask none tells in
      tlv_next ask _ _ _ inv c.loop-at-test.true _ c.end_of-e.ensures c.if-l-e.false _ (tells _ _ _ c.test.ensures) c.if-test.false,
)

pub returns : goal.returns
returns g c = λ ask none tells. let inv = c.loop-at.invariant.1 ask none tells in tlvs_done_lem ask _ _ _ inv c.loop-at-test.false
