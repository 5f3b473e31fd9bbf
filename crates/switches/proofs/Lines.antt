-- The report lines of switches: laws as the needs ask them. Assumes nothing.
use Rattle.store.specs.declared.state.Few.{Few}
use Prim.Native.Nat.{ℕ, ◌+◌, ◌-◌, ◌≤◌, ◌<◌, ◌^◌}
use native.Mathlib.Omega.{arith}
use mathlib.Core.Path.{◌≡◌, refl, sym}
use mathlib.Core.List.{List, [], ◌++◌, map}
use lib.ListN.{get_or}
use Rattle.text.specs.Ascii.{Bytes, ascii}
use Rattle.out.specs.Emit.{Out, emit}
use Rattle.out.specs.Fill.{fill, format2, format4, arg, pick, turns, writes, emit_fill}
use Rattle.out.specs.Items.{joined, rest, unless, join_next, join_done}
use Rattle.tcl.specs.Lists.{list}
use Rattle.names.specs.Name.{name_of}
use Rattle.names.specs.declared.name.Name.{Name}
use Rattle.nametable.specs.Table.{row_name, names_from, table_names}
use Rattle.listnames.specs.Lists.{nth_below, supply_net_lem}
use Rattle.format.specs.Args.{arg_of}
use Rattle.format.specs.declared.arg.Arg.{Arg}
use Rattle.model.specs.Commands.{controls_of}
use Rattle.texts.specs.Switches.{controlled, switch_line}
use Rattle.store.specs.Strings.{string}
use Rattle.store.specs.View.{switch_of}
use Rattle.store.specs.declared.state.Switch.{Switch}
use Rattle.switches.specs.Texts.{ArgIs, control_at, pair_text}
use Rattle.switches.specs.Asked.{OfNames, OfAll, Controlled}
use Rattle.switches.proofs.Glue.{controls_next, controls_end, Eaches, eaches_next, eaches_done}

pair_pieces : (o : Out) (p s : Bytes) → emit (emit (emit o p) (ascii "=")) s ≡ emit o (format2 "{0}={1}" p s)
unfolding emit writes turns arg pick
pair_pieces o p s = sym (emit_fill o (ascii "{0}={1}") p s [] [] [])

pub pair_all : (mem : Bytes) (table : List ℕ) (i : ℕ) (o o₁ o₂ o₃ : Out) (p s : Name) → o₃ ≡ emit o₂ (name_of mem s) → o₂ ≡ emit o₁ (ascii "=") → o₁ ≡ emit o (name_of mem p) → p ≡ row_name table i → s ≡ row_name table (i + 1) → o₃ ≡ emit o (pair_text (control_at mem table i))
pair_all mem table i o o₁ o₂ o₃ p s e₃ e₂ e₁ ep es = rw (e₃, e₂, e₁, ep, es) (pair_pieces o (name_of mem (row_name table i)) (name_of mem (row_name table (i + 1))))

pub record Pairs (sep mem : Bytes) (table : List ℕ) (n : ℕ) (w o : Out) (i : ℕ) : Type 0 where
  pub keeps : emit o (rest sep i (map pair_text (controls_of (names_from mem table i (n - i))))) ≡ w
  pub low : i ≤ n + 1

pub pairs_start : (sep mem : Bytes) (table : List ℕ) (n : ℕ) (o : Out) → Pairs sep mem table n (emit o (joined sep (map pair_text (controls_of (table_names mem table n))))) o 0
unfolding rest
pairs_start sep mem table n o = let e : n - 0 ≡ n = omega arith in record { keeps = rw e; low = omega arith }

module _ (sep mem : Bytes) (table : List ℕ) (n : ℕ) (w o : Out) (i : ℕ) (inv : Pairs sep mem table n w o i) where
  pub pairs_next : (o₁ o₂ : Out) → o₂ ≡ emit o₁ (pair_text (control_at mem table i)) → o₁ ≡ emit o (unless i sep) → i + 1 < n → Pairs sep mem table n w o₂ (i + 2)
  pairs_next o₁ o₂ e₂ e₁ h =
      record { keeps = join_next o o₁ o₂ w sep i 1 (pair_text (control_at mem table i)) (map pair_text (controls_of (names_from mem table (i + 2) (n - (i + 2))))) e₁ e₂ (rw (controls_next mem table n i h) at inv.keeps); low = omega arith }

  pub pairs_done : n ≤ i + 1 → o ≡ w
  pairs_done h = join_done o w sep i (rw (controls_end mem table n i h) at inv.keeps)

  pub pairs_index : n ≤ 65536 → i + 1 < 2 ^ 64
  pairs_index h = omega (arith, inv.low)

pub pairs_row : (n i : ℕ) → n ≤ 65536 → i + 1 < n → i ≤ 65535
pairs_row n i h g = omega arith

pub pairs_two : (n i : ℕ) → n ≤ 65536 → i + 1 < n → i + 2 < 2 ^ 64
pairs_two n i h g = omega arith

pub few_rows : (mem : Bytes) (w : Switch) (table : List ℕ) (count : ℕ) → Controlled mem w table count → count ≤ 65536
few_rows mem w table count t = omega (arith, t.few)

-- ---- a line

line_pieces : (o : Out) (a b c d : Bytes) → emit (emit (emit o (fill (ascii "power switch {0}: {1} -> {2} controlled by ") a b c [] [])) d) (ascii "\n") ≡ emit o (format4 "power switch {0}: {1} -> {2} controlled by {3}\n" a b c d)
unfolding emit writes turns arg pick
line_pieces o a b c d = simp emit_fill

module _ (job mem : Bytes) (scope : List Bytes) (top : Bytes) (w : Switch) (table : List ℕ) (count : ℕ) (t : Controlled mem w table count) where
  controlled_is : controlled (switch_of mem [] w) ≡ joined (ascii ",") (map pair_text (controls_of (table_names mem table count)))
  unfolding switch_of
  controlled_is = rw t.are

  input_is : (switch_of mem [] w).input.net ≡ nth_below (string mem w.scope) 1 (list (string mem w.input))
  unfolding switch_of
  input_is = supply_net_lem (string mem w.scope) (list (string mem w.input))

  output_is : (switch_of mem [] w).output.net ≡ nth_below (string mem w.scope) 1 (list (string mem w.output))
  unfolding switch_of
  output_is = supply_net_lem (string mem w.scope) (list (string mem w.output))

  name_is : (switch_of mem [] w).name ≡ string mem w.name
  unfolding switch_of
  name_is = refl

  pub line_all : (a b c : Arg) (o o₁ o₂ o₃ : Out) → o₃ ≡ emit o₂ (ascii "\n") → o₂ ≡ emit o₁ (joined (ascii ",") (map pair_text (controls_of (table_names mem table count)))) → o₁ ≡ emit o (fill (ascii "power switch {0}: {1} -> {2} controlled by ") (arg_of job mem scope top a) (arg_of job mem scope top b) (arg_of job mem scope top c) [] [])
      → ArgIs mem (string mem w.name) a → ArgIs mem (nth_below (string mem w.scope) 1 (list (string mem w.input))) b → ArgIs mem (nth_below (string mem w.scope) 1 (list (string mem w.output))) c → o₃ ≡ emit o (switch_line (switch_of mem [] w))
  line_all a b c o o₁ o₂ o₃ e₃ e₂ e₁ ia ib ic =
      rw (e₃, e₂, e₁, ia.is job scope top, ib.is job scope top, ic.is job scope top, controlled_is, input_is, output_is, name_is)
      (line_pieces o (string mem w.name) (nth_below (string mem w.scope) 1 (list (string mem w.input))) (nth_below (string mem w.scope) 1 (list (string mem w.output))) (joined (ascii ",") (map pair_text (controls_of (table_names mem table count)))))

-- ---- all lines

module _ (files area : List ℕ) (t : Few Switch) (a : OfAll files area t) (i : ℕ) where
  pub lines_one : (d : Switch) → i < t.n → OfNames files area (get_or t.all i d)
  lines_one d h = a.each i h d

  module _ (w o : Out) (inv : Eaches switch_line (switch_of (files ++ area) []) t.all t.n w o i) where
    pub lines_next : (d : Switch) (o' : Out) → o' ≡ emit o (switch_line (switch_of (files ++ area) [] (get_or t.all i d))) → i < t.n → Eaches switch_line (switch_of (files ++ area) []) t.all t.n w o' (i + 1)
    lines_next d o' e h = eaches_next switch_line (switch_of (files ++ area) []) t.all t.n w o i inv a.sized d o' e h

    pub lines_done : t.n ≤ i → o ≡ w
    lines_done h = eaches_done switch_line (switch_of (files ++ area) []) t.all t.n w o i inv a.sized h
