-- The glue of switches: laws as the needs ask them. Assumes nothing.
use Rattle.store.specs.declared.state.Few.{Few}
use Prim.Native.Nat.{ℕ, suc, ◌+◌, ◌-◌, ◌*◌, ◌≤◌, ◌<◌, ◌^◌}
use native.Mathlib.Omega.{arith}
use mathlib.Core.Path.{◌≡◌, refl, sym, ap, ap₂, ◌∙◌}
use mathlib.Core.List.{List, [], ◌∷◌, ◌++◌, map}
use lib.ListN.{length, take, drop, get_or}
use Rattle.text.specs.Ascii.{Bytes, ascii}
use Rattle.out.specs.Emit.{Out, emit, emit_append, emit-⊕, ◌⊕◌}
use Rattle.out.specs.Fill.{fill, arg, pick, turns, writes, emit_fill}
use Rattle.out.specs.Items.{each, each_cons, each_none}
use Rattle.spans.specs.Span.{bytes}
use Rattle.spans.specs.declared.span.Span.{Span}
use Rattle.tcl.specs.Lists.{list}
use Rattle.names.specs.Name.{name_of}
use Rattle.names.specs.declared.name.Name.{Name}
use Rattle.names.specs.Frame.{alone_is}
use Rattle.names.specs.declared.name.Form.TheVariants.{Word}
use Rattle.nametable.specs.Table.{row_name, names_from, table_names, names_next}
use Rattle.listnames.specs.Lists.{nth_below, Whole, Known, whole_by, supply_net_lem}
use Rattle.design.specs.Paths.{element_path}
use Rattle.format.specs.Args.{arg_of, name_arg, hier_arg}
use Rattle.format.specs.Laws.{name_arg_lem, hier_arg_lem}
use Rattle.format.specs.declared.arg.Arg.{Arg}
use Rattle.model.specs.Records.{Control}
use Rattle.model.specs.Commands.{controls_of}
use Rattle.texts.specs.Setting.{Setting}
use Rattle.texts.specs.Switches.{switch_on, switch_state, control_block, switch_glue}
use Rattle.store.specs.Strings.{string, span_of}
use Rattle.store.specs.View.{switch_of}
use Rattle.store.specs.Order.{Sized}
use Rattle.store.specs.declared.stored.Stored.{Stored}
use Rattle.store.specs.declared.state.Switch.{Switch}
use Rattle.setting.specs.Orders.{sized_next, sized_end}
use Rattle.conditions.specs.Controls.{scope_setting, controls_few}
use Rattle.switches.specs.Words.{ons_from, switch_in, ons_are}
use Rattle.switches.specs.Texts.{ArgIs, ons_text, state_text, signal_text, control_text, control_at}
use Rattle.switches.specs.Asked.{Ons, OfNames, OfSwitch, OfSwitches, Controlled}
use Rattle.clamps.specs.Values.{stored_name}

-- ---- arguments

pub arg_string : (mem : Bytes) (s : Stored) (r : Arg) (x : Name) → r ≡ name_arg x → x ≡ stored_name s → ArgIs mem (string mem s) r
arg_string mem s r x e ex = record { is = λ job scope top. rw (e, ex) (name_arg_lem job mem scope top (stored_name s) ∙ alone_is mem (span_of s) Word) }

pub arg_net : (mem : Bytes) (scope v : Stored) (r : Arg) (x : Name) (s u : Span) (end : ℕ) → r ≡ name_arg x → Known mem (nth_below (bytes mem s) 1 (list (bytes mem u))) end x → s ≡ span_of scope → u ≡ span_of v → ArgIs mem (nth_below (string mem scope) 1 (list (string mem v))) r
arg_net mem scope v r x s u end e k es eu = record { is = λ job sc top. rw e (name_arg_lem job mem sc top x ∙ k.is ∙ rw (es, eu)) }

pub arg_whole : (long : ℕ) (v : Stored) (u : Span) → Whole long (span_of v) → u ≡ span_of v → Whole long u
arg_whole long v u w e = rw e w

-- ---- the net of the output

state_pieces : (o : Out) (a b z d on : Bytes) → emit (emit (emit (emit (emit (emit (emit o (fill (ascii "  assign upf__{b} = (") a b z d [])) on) (fill (ascii ") ? upf__{a} : ((") a b z d [])) on) (fill (ascii ") === 1'b0 ? 1'b0 : 1'bx);\n  always @* upf__{b}_v = (") a b z d [])) on) (fill (ascii ") ? upf__{a}_v : 0.0;\n  logic [1:0] upf_swst__{d} = 2'd3;\n") a b z d []) ≡ emit o (state_text a b on d)
unfolding emit writes turns arg pick
state_pieces o a b z d on = simp emit_fill

pub state_all : (a b z d on : Bytes) (o o₁ o₂ o₃ o₄ o₅ o₆ o₇ : Out) → o₁ ≡ emit o (fill (ascii "  assign upf__{b} = (") a b z d []) → o₂ ≡ emit o₁ on → o₃ ≡ emit o₂ (fill (ascii ") ? upf__{a} : ((") a b z d []) → o₄ ≡ emit o₃ on → o₅ ≡ emit o₄ (fill (ascii ") === 1'b0 ? 1'b0 : 1'bx);\n  always @* upf__{b}_v = (") a b z d []) → o₆ ≡ emit o₅ on → o₇ ≡ emit o₆ (fill (ascii ") ? upf__{a}_v : 0.0;\n  logic [1:0] upf_swst__{d} = 2'd3;\n") a b z d []) → o₇ ≡ emit o (state_text a b on d)
state_all a b z d on o o₁ o₂ o₃ o₄ o₅ o₆ o₇ e₁ e₂ e₃ e₄ e₅ e₆ e₇ = rw (e₇, e₆, e₅, e₄, e₃, e₂, e₁) (state_pieces o a b z d on)

-- ---- the process of a control port

signal_pieces : (o : Out) (a z c d on : Bytes) → emit (emit (emit (emit (emit o (fill (ascii "  always @({0}) begin\n    if ((") a z c d [])) on) (fill (ascii ") === 1'b1) begin if (upf_swst__{c} != 2'd1) $display(\"[UPF] Time: %0t, Power switch '{2}': control '{3}' = %b, state FULL_ON\", $time, {0}); upf_swst__{c} = 2'd1; end\n    else if ((") a z c d [])) on) (fill (ascii ") === 1'b0) begin if (upf_swst__{c} != 2'd0) $display(\"[UPF] Time: %0t, Power switch '{2}': control '{3}' = %b, state OFF\", $time, {0}); upf_swst__{c} = 2'd0; end\n    else begin if (upf_swst__{c} != 2'd2) $display(\"[UPF] Time: %0t, Power switch '{2}': control '{3}' = %b, state UNDETERMINED\", $time, {0}); upf_swst__{c} = 2'd2; end\n  end\n") a z c d []) ≡ emit o (signal_text a on c d)
unfolding emit writes turns arg pick
signal_pieces o a z c d on = simp emit_fill

pub signal_all : (a z c d on : Bytes) (o o₁ o₂ o₃ o₄ o₅ : Out) → o₁ ≡ emit o (fill (ascii "  always @({0}) begin\n    if ((") a z c d []) → o₂ ≡ emit o₁ on → o₃ ≡ emit o₂ (fill (ascii ") === 1'b1) begin if (upf_swst__{c} != 2'd1) $display(\"[UPF] Time: %0t, Power switch '{2}': control '{3}' = %b, state FULL_ON\", $time, {0}); upf_swst__{c} = 2'd1; end\n    else if ((") a z c d []) → o₄ ≡ emit o₃ on → o₅ ≡ emit o₄ (fill (ascii ") === 1'b0) begin if (upf_swst__{c} != 2'd0) $display(\"[UPF] Time: %0t, Power switch '{2}': control '{3}' = %b, state OFF\", $time, {0}); upf_swst__{c} = 2'd0; end\n    else begin if (upf_swst__{c} != 2'd2) $display(\"[UPF] Time: %0t, Power switch '{2}': control '{3}' = %b, state UNDETERMINED\", $time, {0}); upf_swst__{c} = 2'd2; end\n  end\n") a z c d []) → o₅ ≡ emit o (signal_text a on c d)
signal_all a z c d on o o₁ o₂ o₃ o₄ o₅ e₁ e₂ e₃ e₄ e₅ = rw (e₅, e₄, e₃, e₂, e₁) (signal_pieces o a z c d on)

pub control_row : (job mem : Bytes) (scope : List Bytes) (top : Bytes) (table : List ℕ) (i : ℕ) (on name : Bytes) (o o' : Out) (a d : Arg) (s p : Name) → o' ≡ emit o (signal_text (arg_of job mem scope top a) on name (arg_of job mem scope top d)) → a ≡ hier_arg s → s ≡ row_name table (i + 1) → d ≡ name_arg p → p ≡ row_name table i → o' ≡ emit o (control_text scope on name (control_at mem table i))
control_row job mem scope top table i on name o o' a d s p e ea es ed ep =
    let x : arg_of job mem scope top a ≡ element_path scope (name_of mem (row_name table (i + 1))) = rw (ea, es) (hier_arg_lem job mem scope top (row_name table (i + 1))) in
    let y : arg_of job mem scope top d ≡ name_of mem (row_name table i) = rw (ed, ep) (name_arg_lem job mem scope top (row_name table i)) in
    e ∙ ap₂ (λ (u v : Bytes). emit o (signal_text u on name v)) x y

-- ---- control ports by turns

pub controls_next : (mem : Bytes) (table : List ℕ) (n i : ℕ) → i + 1 < n → controls_of (names_from mem table i (n - i)) ≡ control_at mem table i ∷ controls_of (names_from mem table (i + 2) (n - (i + 2)))
controls_next mem table n i h =
    let z : n - i ≡ suc (suc (n - (i + 2))) = omega arith in
    let y : i + 1 + 1 ≡ i + 2 = omega arith in
    let l : names_from mem table i (n - i) ≡ name_of mem (row_name table i) ∷ name_of mem (row_name table (i + 1)) ∷ names_from mem table (i + 2) (n - (i + 2)) =
    rw z (names_next mem table i (suc (n - (i + 2))) ∙ ap (λ (k : List Bytes). name_of mem (row_name table i) ∷ k) (rw (names_next mem table (i + 1) (n - (i + 2)), y))) in
    ap controls_of l

pub controls_end : (mem : Bytes) (table : List ℕ) (n i : ℕ) → n ≤ i + 1 → controls_of (names_from mem table i (n - i)) ≡ []
controls_end mem table n i h = controls_few mem table i (n - i) (omega arith)

pub record Turns (f : Control → Bytes) (mem : Bytes) (table : List ℕ) (n : ℕ) (w o : Out) (i : ℕ) : Type 0 where
  pub keeps : emit o (each f (controls_of (names_from mem table i (n - i)))) ≡ w
  pub low : i ≤ n + 1

pub turns_start : (f : Control → Bytes) (mem : Bytes) (table : List ℕ) (n : ℕ) (o : Out) → Turns f mem table n (emit o (each f (controls_of (table_names mem table n)))) o 0
turns_start f mem table n o = let e : n - 0 ≡ n = omega arith in record { keeps = rw e; low = omega arith }

module _ (f : Control → Bytes) (mem : Bytes) (table : List ℕ) (n : ℕ) (w o : Out) (i : ℕ) (inv : Turns f mem table n w o i) where
  pub turns_next : (o' : Out) → o' ≡ emit o (f (control_at mem table i)) → i + 1 < n → Turns f mem table n w o' (i + 2)
  turns_next o' e h =
      let left = controls_of (names_from mem table (i + 2) (n - (i + 2))) in
      record { keeps = rw e (sym (emit_append o (f (control_at mem table i)) (each f left)) ∙ ap (emit o) (sym (each_cons f (control_at mem table i) left)) ∙ (rw (controls_next mem table n i h) at inv.keeps)); low = omega arith }

  pub turns_done : n ≤ i + 1 → o ≡ w
  turns_done h = sym (each_none f o) ∙ (rw (controls_end mem table n i h) at inv.keeps)

  pub turns_index : n ≤ 65536 → i + 1 < 2 ^ 64
  turns_index h = omega (arith, inv.low)

-- the same of what is asked
module _ (files area nums : List ℕ) (first m count : ℕ) (a : Ons files area nums first m count) (i : ℕ) where
  pub turn_row : i + 1 < count → i ≤ 65535
  turn_row h = omega (arith, a.rows)

  pub turn_two : i + 1 < count → i + 2 < 2 ^ 64
  turn_two h = omega (arith, a.rows)

-- ---- a switch

module _ (files area : List ℕ) (w : Switch) (a : OfNames files area w) where
  pub input_whole : Whole (length files) (span_of w.input)
  input_whole = whole_by (length files) (length (files ++ area)) (span_of w.input) a.small (omega (arith, a.strings))

  pub output_whole : Whole (length files) (span_of w.output)
  output_whole = whole_by (length files) (length (files ++ area)) (span_of w.output) a.small (omega (arith, a.strings))

module _ (files area nums : List ℕ) (w : Switch) (a : OfSwitch files area nums w) (table : List ℕ) (count : ℕ) (t : Controlled (files ++ area) w table count) (f n : ℕ) (ef : f ≡ w.first) (en : n ≡ w.ons) where
  pub glue_ons : Ons files area nums f n count
  glue_ons = record { small = a.names.small; rows = omega (arith, t.few); fits = omega (arith, ef, en, a.count); words = λ j h. a.words j (omega (arith, ef, en)) }

module _ (job mem : Bytes) (nums : List ℕ) (scope : List Bytes) (top : Bytes) (w : Switch) (table : List ℕ) (count : ℕ) (t : Controlled mem w table count) (f n : ℕ) (ef : f ≡ w.first) (en : n ≡ w.ons) where
  on_is : switch_on (scope_setting scope) (switch_in mem nums w) ≡ ons_text (scope_setting scope) (controls_of (table_names mem table count)) (ons_from mem nums f n)
  unfolding switch_of
  on_is = rw (t.are, ef, en, ← (ons_are mem nums w))

  controls_are : (switch_in mem nums w).controls ≡ controls_of (table_names mem table count)
  unfolding switch_of
  controls_are = ap controls_of (sym t.are)

  input_is : (switch_in mem nums w).input.net ≡ nth_below (string mem w.scope) 1 (list (string mem w.input))
  unfolding switch_of
  input_is = supply_net_lem (string mem w.scope) (list (string mem w.input))

  output_is : (switch_in mem nums w).output.net ≡ nth_below (string mem w.scope) 1 (list (string mem w.output))
  unfolding switch_of
  output_is = supply_net_lem (string mem w.scope) (list (string mem w.output))

  name_is : (switch_in mem nums w).name ≡ string mem w.name
  unfolding switch_of
  name_is = refl

  abbrev on : Bytes
  on = ons_text (scope_setting scope) (controls_of (table_names mem table count)) (ons_from mem nums f n)

  blocks_are : each (control_block (scope_setting scope) (switch_in mem nums w)) (switch_in mem nums w).controls ≡ each (control_text scope on (string mem w.name)) (controls_of (table_names mem table count))
  blocks_are =
      ap (λ (x : Bytes). each (control_text scope x (switch_in mem nums w).name) (switch_in mem nums w).controls) on_is
      ∙ ap (λ (cs : List Control). each (control_text scope on (switch_in mem nums w).name) cs) controls_are
      ∙ ap (λ (x : Bytes). each (control_text scope on x) (controls_of (table_names mem table count))) name_is

  state_is : switch_state (scope_setting scope) (switch_in mem nums w) ≡ state_text (nth_below (string mem w.scope) 1 (list (string mem w.input))) (nth_below (string mem w.scope) 1 (list (string mem w.output))) on (string mem w.name)
  state_is = rw (on_is, input_is, output_is, name_is)

  pub glue_all : (a b d : Arg) (o o₁ o₂ : Out) → o₂ ≡ emit o₁ (each (control_text scope (ons_text (scope_setting scope) (controls_of (table_names mem table count)) (ons_from mem nums f n)) (arg_of job mem scope top d)) (controls_of (table_names mem table count))) → o₁ ≡ emit o (state_text (arg_of job mem scope top a) (arg_of job mem scope top b) (ons_text (scope_setting scope) (controls_of (table_names mem table count)) (ons_from mem nums f n)) (arg_of job mem scope top d))
      → ArgIs mem (nth_below (string mem w.scope) 1 (list (string mem w.input))) a → ArgIs mem (nth_below (string mem w.scope) 1 (list (string mem w.output))) b → ArgIs mem (string mem w.name) d → o₂ ≡ emit o (switch_glue (scope_setting scope) (switch_in mem nums w))
  glue_all a b d o o₁ o₂ e₂ e₁ ia ib id =
      let x : o₁ ≡ emit o (switch_state (scope_setting scope) (switch_in mem nums w)) = (rw (ia.is job scope top, ib.is job scope top, id.is job scope top) at e₁) ∙ ap (emit o) (sym state_is) in
      e₂
      ∙ ap₂ (λ (p : Out) (m : Bytes). emit p (each (control_text scope on m) (controls_of (table_names mem table count)))) x (id.is job scope top)
      ∙ ap (emit (emit o (switch_state (scope_setting scope) (switch_in mem nums w)))) (sym blocks_are)
      ∙ sym (emit-⊕ o (switch_state (scope_setting scope) (switch_in mem nums w)) (each (control_block (scope_setting scope) (switch_in mem nums w)) (switch_in mem nums w).controls))

-- ---- all switches

pub record Eaches {A B : Type 0} (g : B → Bytes) (h : A → B) (all : List A) (n : ℕ) (w o : Out) (i : ℕ) : Type 0 where
  pub keeps : emit o (each g (map h (drop i (take n all)))) ≡ w

module _ {A B : Type 0} (g : B → Bytes) (h : A → B) (all : List A) (n : ℕ) (w o : Out) (i : ℕ) (inv : Eaches g h all n w o i) (s : Sized 32 n all) where
  pub eaches_next : (d : A) (o' : Out) → o' ≡ emit o (g (h (get_or all i d))) → i < n → Eaches g h all n w o' (i + 1)
  eaches_next d o' e l =
      let left = map h (drop (i + 1) (take n all)) in
      record { keeps = rw e (sym (emit_append o (g (h (get_or all i d))) (each g left)) ∙ ap (emit o) (sym (each_cons g (h (get_or all i d)) left)) ∙ (rw (sized_next n all s i d l) at inv.keeps)) }

  pub eaches_done : n ≤ i → o ≡ w
  eaches_done l = sym (each_none g o) ∙ (rw (sized_end n all s i l) at inv.keeps)

module _ (files area nums : List ℕ) (t : Few Switch) (a : OfSwitches files area nums t) (i : ℕ) where
  pub glues_one : (d : Switch) → i < t.n → OfSwitch files area nums (get_or t.all i d)
  glues_one d h = a.each i h d

  module _ (s : Setting) (w o : Out) (inv : Eaches (switch_glue s) (switch_in (files ++ area) nums) t.all t.n w o i) where
    pub glues_next : (d : Switch) (o' : Out) → o' ≡ emit o (switch_glue s (switch_in (files ++ area) nums (get_or t.all i d))) → i < t.n → Eaches (switch_glue s) (switch_in (files ++ area) nums) t.all t.n w o' (i + 1)
    glues_next d o' e h = eaches_next (switch_glue s) (switch_in (files ++ area) nums) t.all t.n w o i inv a.sized d o' e h

    pub glues_done : t.n ≤ i → o ≡ w
    glues_done h = eaches_done (switch_glue s) (switch_in (files ++ area) nums) t.all t.n w o i inv a.sized h
