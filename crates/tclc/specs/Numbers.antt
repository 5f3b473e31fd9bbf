-- What the exported functions answer in numbers. Assumes nothing.
use Rattle.std.specs.Prelude.{Option, Some, None, Result, Ok, Err}
use Rattle.substitution.specs.declared.put.Full.{Full}
use Rattle.substitution.specs.Room.{full}
use Rattle.commands.specs.declared.next.Words.{Words}
use Rattle.spans.specs.declared.span.Span.{Span}
use Rattle.std.specs.Prelude.{ℕ, zero, suc, true, false}
use Rattle.spans.specs.Span.{◌⋯◌}
use Rattle.entries.specs.declared.item.Item.{Item}

-- the next command: 0 none, 1 a limit is passed, else its words
abbrev pub next_by : ℕ → ℕ → ℕ → ℕ → Result (Option Words) Full
next_by zero n at e = Ok None
next_by (suc zero) n at e = Err full
next_by (suc (suc k)) n at e = Ok (Some (record { count = n; next = at; end = e }))

-- an entry: 0 none, 1 as it is, else quoted
abbrev pub item_by : ℕ → ℕ → ℕ → ℕ → Option Item
item_by zero a l n = None
item_by (suc zero) a l n = Some (record { entry = (a ⋯ l); quoted = false; next = n })
item_by (suc (suc k)) a l n = Some (record { entry = (a ⋯ l); quoted = true; next = n })

-- a string: 0 none
abbrev pub found_by : ℕ → ℕ → ℕ → Option Span
found_by zero a l = None
found_by (suc k) a l = Some (a ⋯ l)

-- the next byte of an entry: 0 none
abbrev pub read_by : ℕ → ℕ → ℕ → Option (ℕ × ℕ)
read_by zero b j = None
read_by (suc k) b j = Some (b, j)
