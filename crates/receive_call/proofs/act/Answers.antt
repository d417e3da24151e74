-- `receive_call::act` meets its contract: each step of the decision.
use Rattle.frame_parse.specs.Meaning.{fields_in}
use Rattle.receive_call.proofs.Laws.{act_refused, act_onward, act_channel, act_native}
use Rattle.receive_call.proofs.act.Goals as goal

pub returns-in-Err : goal.returns-in-Err
returns-in-Err c =
    let a = c.args in
    let p = fields_in a.f.now a.p in
    act_refused a.map.now a.s p a.table.now a.out.now _ (c.in-Err.ensures p c.read_values-v.ensures c.has_ethertype-channel.ensures)

pub returns-in-Onward : goal.returns-in-Onward
returns-in-Onward c =
    let a = c.args in
    let p = fields_in a.f.now a.p in
    act_onward a.map.now a.s p a.table.now a.out.now _ (c.in-Ok.ensures p c.read_values-v.ensures c.has_ethertype-channel.ensures) c.in-Onward.is

pub returns-in-Channel : goal.returns-in-Channel
returns-in-Channel c =
    let a = c.args in
    let p = fields_in a.f.now a.p in
    act_channel a.map.now a.s p a.table.now a.out.now _ (c.in-Ok.ensures p c.read_values-v.ensures c.has_ethertype-channel.ensures) c.in-Channel.is _ (c.handle.ensures a.out.now)

pub returns-in-Native : goal.returns-in-Native
returns-in-Native c =
    let a = c.args in
    let p = fields_in a.f.now a.p in
    act_native a.map.now a.s p a.table.now a.out.now _ (c.in-Ok.ensures p c.read_values-v.ensures c.has_ethertype-channel.ensures) c.in-Native.is c.tag_of-tag.result c.tag_of-tag.ensures _ c.deliver.ensures
