-- `lists::and_option` meets its contract. Assumes nothing.
use Rattle.lists.proofs.Laws.{options}
use Rattle.lists.proofs.and_option.Goals as goal

pub option-requires : goal.option-requires
option-requires c = search options

pub enum_told-1 : goal.enum_told-1
enum_told-1 c = search options

pub enum_known-v : goal.enum_known-v
enum_known-v c = search options

pub and_value-requires : goal.and_value-requires
and_value-requires c = search options

pub returns-in-None : goal.returns-in-None
returns-in-None c = search options

pub returns-in-Some : goal.returns-in-Some
returns-in-Some c = search options
