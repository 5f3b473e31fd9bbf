-- The texts of the processes by the strategies' numbers. Assumes nothing.
use Rattle.std.specs.Prelude.{ℕ, Bool, List, []}
use Rattle.text.specs.Ascii.{Bytes, ascii}
use Rattle.out.specs.Emit.{◌⊕◌}
use Rattle.out.specs.Fill.{fill, format2}
use Rattle.out.specs.Items.{each}
use Rattle.design.specs.Lists.{those}
use Rattle.design.specs.Paths.{element_path}
use Rattle.model.specs.Records.{Isolation as Isolationʳ}
use Rattle.texts.specs.Isolation.{lowered, active_of}
use Rattle.format.specs.Args.{rooted}
use Rattle.isolated.specs.Table.{Kept}
use Rattle.alike.specs.Strategies.{signal_of, are_alike}

-- ---- ports by their strategies; f has the strategies by their numbers

-- strategy j is like strategy i
abbrev pub is_like : (ℕ → Isolationʳ) → ℕ → ℕ → Bool
is_like f i j = are_alike (f i) (f j)

-- ---- texts

-- a template for a port: {0} the parent's net, {1} the clamp value, {2} the strategy, {3} the port
unfoldable pub port_text : Bytes → List Bytes → Bytes → (ℕ → Isolationʳ) → Kept → Bytes
port_text tpl scope top f x = fill tpl (element_path scope x.net) (lowered (f x.strategy).clamp) (f x.strategy).name (rooted top scope x.key) []

-- for each port of a strategy like strategy i
unfoldable pub ports_text : Bytes → List Bytes → Bytes → (ℕ → Isolationʳ) → ℕ → List Kept → Bytes
ports_text tpl scope top f i l = each (port_text tpl scope top f) (those (λ (x : Kept). is_like f i x.strategy) l)

unfoldable pub head_text : List Bytes → Isolationʳ → Bytes
head_text scope i = format2 "  always @({0}) begin\n    if ({0} === {1}) begin\n" (element_path scope (signal_of i)) (active_of i)

-- the process of strategy i
unfoldable pub process_text : List Bytes → Bytes → (ℕ → Isolationʳ) → List Kept → ℕ → Bytes
process_text scope top f l i =
    head_text scope (f i)
    ⊕ ports_text (ascii "      force {0} = '{1};\n      $display(\"[UPF] Time: %0t, Isolation enabled (strategy {2}) on port '{3}', clamp {1}\", $time);\n") scope top f i l
    ⊕ ascii "    end else begin\n"
    ⊕ ports_text (ascii "      release {0};\n      $display(\"[UPF] Time: %0t, Isolation disabled (strategy {2}) on port '{3}'\", $time);\n") scope top f i l
    ⊕ ascii "    end\n  end\n"
