use Rattle.std.proofs.Common.{Some, ◌∙◌, ap}
use Rattle.events.specs.EventMap.{numbers}
use Rattle.events.proofs.Written.{group_values, groups_read, groups_value_all, groups_read_all}
use Rattle.events.proofs.event_map.groups_element.Goals as goal

pub loop-group-preserved : goal.loop-group-preserved
loop-group-preserved c =
    let groups = c.groups-group-items.result.now in
    let i = c.loop-group.group-index in
    record {
      value = group_values c.loop-group.elements.items c.push.new.self.items groups i c.group-item.result c.in_ok-numbers.numbers c.loop-group-test.true c.group-item.is c.in_ok-push.ensures.items
          (c.in_ok-numbers.ensures.value ∙ ap numbers c.as_slice.ensures.value) c.loop-group.invariant.value;
      spells = groups_read c.loop-group.elements.items c.push.new.self.items groups i c.group-item.result c.in_ok-numbers.numbers c.loop-group-test.true c.group-item.is c.in_ok-push.ensures.items
          (c.in_ok-numbers.ensures.spells ∙ ap Some c.as_slice.ensures.value) c.loop-group.invariant.spells;
    }

pub returns-clause-value : goal.returns-clause-value
returns-clause-value c =
    groups_value_all c.loop-group.elements c.groups-group-items.result.now c.args.groups.now c.loop-group.group-index c.loop-group-test.false c.groups-group-items.ensures c.loop-group.invariant.value

pub returns-clause-spells : goal.returns-clause-spells
returns-clause-spells c =
    groups_read_all c.loop-group.elements c.groups-group-items.result.now c.args.groups.now c.loop-group.group-index c.loop-group-test.false c.groups-group-items.ensures c.loop-group.invariant.spells
