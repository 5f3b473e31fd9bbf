-- `switchwarnings::state_warnings` meets its contract. Assumes nothing.
use borrow.Author.Rules.{rules}
use Rattle.switchwarnings.proofs.States.{reads_input, reads_condition, reads_low, reads_more, state_same, state_other}
use Rattle.switchwarnings.proofs.state_warnings.Goals as goal

pub nth-port-requires : goal.nth-port-requires
nth-port-requires c = c.requires.value

pub nth-expected-requires : goal.nth-expected-requires
nth-expected-requires c = reads_input _ _ _ _ _ _ c.requires _ c.from.ensures

pub nth-e-requires : goal.nth-e-requires
nth-e-requires c = c.requires.value

pub condition_warnings-requires : goal.condition_warnings-requires
condition_warnings-requires c = reads_condition _ _ _ _ _ _ c.requires

pub returns-then-same_names : goal.returns-then-same_names
returns-then-same_names c = (c.condition_warnings.ensures.0, state_same _ _ _ c.args.w _ _ _ _ _ _ _ _ c.nth-port.ensures c.nth-expected.ensures c.nth-e.ensures c.from.ensures _ c.same_names.ensures _ _ _ _ c.condition_warnings.ensures.1 c.if-same_names.true)

pub port_warning-told-requires : goal.port_warning-told-requires
port_warning-told-requires c = reads_low _ _ _ _ _ _ c.requires

pub condition_warnings-requires-2 : goal.condition_warnings-requires-2
condition_warnings-requires-2 c = reads_more _ _ _ _ _ _ c.requires _ _ _ _ c.port_warning-told.ensures.1

pub returns : goal.returns
returns c = (search rules, state_other _ _ _ c.args.w _ _ _ _ _ _ _ _ c.nth-port.ensures c.nth-expected.ensures c.nth-e.ensures c.from.ensures _ c.same_names.ensures _ _ _ _ _ _ c.condition_warnings-2.ensures.1 c.port_warning-told.ensures.1 c.if-same_names.false)
