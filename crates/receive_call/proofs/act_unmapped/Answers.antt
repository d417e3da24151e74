-- `receive_call::act_unmapped` meets its contract: each step of the decision, with the empty map.
use mathlib.Core.List.{[]}
use mathlib.Core.Path.{refl}
use Rattle.frame_parse.specs.Meaning.{fields_in}
use Rattle.receive_deliver.specs.declared.Tag.TheVariants as tag
use Rattle.receive_call.proofs.Laws.{act_refused, act_onward, act_channel, act_native, tag_empty}
use Rattle.receive_call.proofs.act_unmapped.Goals as goal

pub returns-in-Err : goal.returns-in-Err
returns-in-Err c =
    let a = c.args in
    let p = fields_in a.f.now a.p in
    act_refused [] a.s p a.table.now a.out.now _ (c.in-Err.ensures p c.read_values-v.ensures c.has_ethertype-is_channel.ensures)

pub returns-in-Onward : goal.returns-in-Onward
returns-in-Onward c =
    let a = c.args in
    let p = fields_in a.f.now a.p in
    act_onward [] a.s p a.table.now a.out.now _ (c.in-Ok.ensures p c.read_values-v.ensures c.has_ethertype-is_channel.ensures) c.in-Onward.is

pub returns-in-Channel : goal.returns-in-Channel
returns-in-Channel c =
    let a = c.args in
    let p = fields_in a.f.now a.p in
    act_channel [] a.s p a.table.now a.out.now _ (c.in-Ok.ensures p c.read_values-v.ensures c.has_ethertype-is_channel.ensures) c.in-Channel.is _ (c.handle.ensures a.out.now)

pub returns-in-Native : goal.returns-in-Native
returns-in-Native c =
    let a = c.args in
    let p = fields_in a.f.now a.p in
    act_native [] a.s p a.table.now a.out.now _ (c.in-Ok.ensures p c.read_values-v.ensures c.has_ethertype-is_channel.ensures) c.in-Native.is tag.Untagged (tag_empty [] refl p) _ c.deliver.ensures
