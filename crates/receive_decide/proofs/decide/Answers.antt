-- `receive_decide::decide` meets its contract: each way out is an outcome of the definition.
use Rattle.receive_decide.proofs.Laws.{hops_out, nicknames_out, source_out, goes_onward, is_channel_lem, is_native}
use Rattle.receive_decide.proofs.decide.Goals as goal

pub returns-then-v-eq0 : goal.returns-then-v-eq0
returns-then-v-eq0 c = λ p w e x y z. hops_out c.args.s p c.args.v w x y z c.if-v-eq0.true

pub returns-then-not-nicknames_good : goal.returns-then-not-nicknames_good
returns-then-not-nicknames_good c = λ p w e x y z. nicknames_out c.args.s p c.args.v w x y z c.if-v-eq0.false _ c.nicknames_good.ensures c.if-not-nicknames_good.true

pub returns-then-not-is_individual : goal.returns-then-not-is_individual
returns-then-not-is_individual c = λ p w e x y z. source_out c.args.s p c.args.v w x y z c.if-v-eq0.false _ c.nicknames_good.ensures c.if-not-nicknames_good.false _ c.is_individual.ensures c.if-not-is_individual.true

pub returns-then-is_onward : goal.returns-then-is_onward
returns-then-is_onward c = λ p w e x y z. goes_onward c.args.s p c.args.v w x y z c.if-v-eq0.false _ c.nicknames_good.ensures c.if-not-nicknames_good.false _ c.is_individual.ensures c.if-not-is_individual.false _ c.is_onward.ensures c.if-is_onward.true

pub returns-then-channel : goal.returns-then-channel
returns-then-channel c = λ p w e x y z. is_channel_lem c.args.s p c.args.v w x y z c.if-v-eq0.false _ c.nicknames_good.ensures c.if-not-nicknames_good.false _ c.is_individual.ensures c.if-not-is_individual.false _ c.is_onward.ensures c.if-is_onward.false _ e c.if-channel.true

pub returns : goal.returns
returns c = λ p w e x y z. is_native c.args.s p c.args.v w x y z c.if-v-eq0.false _ c.nicknames_good.ensures c.if-not-nicknames_good.false _ c.is_individual.ensures c.if-not-is_individual.false _ c.is_onward.ensures c.if-is_onward.false _ e c.if-channel.false
