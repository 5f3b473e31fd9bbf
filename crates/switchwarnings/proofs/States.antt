-- The warnings about on-states, switch by switch: laws as the needs ask them. Assumes nothing.
use Rattle.store.specs.declared.state.Few.{Few}
use Prim.Native.Nat.{ℕ, suc, ◌+◌, ◌-◌, ◌*◌, ◌≤◌, ◌<◌, ◌^◌}
use native.Mathlib.Omega.{arith}
use mathlib.Core.Path.{◌≡◌, refl, sym, ap, ap₂, ◌∙◌}
use mathlib.Core.Bool.{Bool, true, false}
use mathlib.Core.List.{List, [], ◌∷◌, ◌++◌, map, flat_map}
use lib.ListN.{length, take, drop, get_or, length-append}
use Rattle.text.specs.Ascii.{Bytes, ascii}
use Rattle.text.specs.Compare.{same}
use Rattle.out.specs.Emit.{Out, emit, emit_append}
use Rattle.out.specs.Fill.{fill, format3, arg, pick, turns, writes, emit_fill}
use Rattle.out.specs.Items.{each, each_none}
use Rattle.spans.specs.Span.{bytes}
use Rattle.spans.specs.declared.span.Span.{Span}
use Rattle.tcl.specs.Lists.{list}
use Rattle.names.specs.Name.{name_of}
use Rattle.names.specs.declared.name.Name.{Name}
use Rattle.names.specs.Frame.{alone_is}
use Rattle.names.specs.declared.name.Form.TheVariants.{Word}
use Rattle.nametable.specs.Table.{table_names}
use Rattle.listnames.specs.Lists.{Whole, Known, whole_by, supply_port}
use Rattle.format.specs.Args.{arg_of, name_arg}
use Rattle.format.specs.Laws.{name_arg_lem}
use Rattle.format.specs.declared.arg.Arg.{Arg}
use Rattle.model.specs.Records.{Control, OnState, Switch as Switchʳ}
use Rattle.model.specs.Commands.{nth, controls_of}
use Rattle.texts.specs.Setting.{Setting}
use Rattle.texts.specs.Switches.{unknowns, on_warnings}
use Rattle.texts.specs.Texts.{warning_line}
use Rattle.texts.specs.Laws.{each_append}
use Rattle.store.specs.Strings.{string, span_of}
use Rattle.store.specs.View.{on_of, switch_of}
use Rattle.store.specs.Rows.{word_at}
use Rattle.store.specs.declared.stored.Stored.{Stored}
use Rattle.store.specs.declared.state.Switch.{Switch}
use Rattle.setting.specs.Orders.{sized_next, sized_end}
use Rattle.switches.specs.Words.{ons_from, switch_in, ons_are, ons_cons, ons_none}
use Rattle.switches.specs.Texts.{Told, on_remarks, remarks}
use Rattle.switches.specs.Asked.{OfSwitch, OfSwitches, Controlled}
use Rattle.switchwarnings.specs.Asked.{Reads}
use Rattle.switchwarnings.proofs.Words.{told_none, told_one, told_then}
use Rattle.clamps.specs.Values.{stored_name}

-- ---- another port than the input's

port_pieces : (o : Out) (x y z : Bytes) → emit o (fill (ascii "warning: power switch '{0}': on_state uses input port '{1}' (expected '{2}')\n") x y z [] []) ≡ emit o (warning_line (format3 "power switch '{0}': on_state uses input port '{1}' (expected '{2}')" x y z))
unfolding emit writes turns arg pick
port_pieces o x y z = simp emit_fill

pub port_told : (job mem : Bytes) (scope : List Bytes) (top : Bytes) (s : Stored) (port expected : Name) (o o' : Out) (n : ℕ) (a b c : Arg) (x : Name) → o' ≡ emit o (fill (ascii "warning: power switch '{0}': on_state uses input port '{1}' (expected '{2}')\n") (arg_of job mem scope top a) (arg_of job mem scope top b) (arg_of job mem scope top c) [] []) → a ≡ name_arg x → x ≡ stored_name s → b ≡ name_arg port → c ≡ name_arg expected → Told 1 o n (format3 "power switch '{0}': on_state uses input port '{1}' (expected '{2}')" (string mem s) (name_of mem port) (name_of mem expected) ∷ []) o' (n + 1)
port_told job mem scope top s port expected o o' n a b c x e ea ex eb ec =
    let p : arg_of job mem scope top a ≡ string mem s = rw (ea, ex) (name_arg_lem job mem scope top (stored_name s) ∙ alone_is mem (span_of s) Word) in
    let q : arg_of job mem scope top b ≡ name_of mem port = rw eb (name_arg_lem job mem scope top port) in
    let r : arg_of job mem scope top c ≡ name_of mem expected = rw ec (name_arg_lem job mem scope top expected) in
    told_one o o' n (format3 "power switch '{0}': on_state uses input port '{1}' (expected '{2}')" (string mem s) (name_of mem port) (name_of mem expected)) ((rw (p, q, r) at e) ∙ port_pieces o (string mem s) (name_of mem port) (name_of mem expected))

-- ---- an on-state

module _ (files area : List ℕ) (count : ℕ) (w : Switch) (v : Span) (n : ℕ) (a : Reads files area count w v n) where
  pub reads_value : Whole (length files) v
  reads_value = a.value

  pub reads_input : (u : Span) → u ≡ span_of w.input → Whole (length files) u
  reads_input u e = whole_by (length files) (length (files ++ area)) u a.names.small (rw e (omega (arith, a.names.strings)))

  pub reads_condition : (length (files ++ area) < 2 ^ 32) × ((count ≤ 65536) × (n ≤ 2 ^ 61))
  reads_condition = (a.names.small, (a.rows, omega (arith, a.low)))

  pub reads_low : n ≤ 2 ^ 62
  reads_low = omega (arith, a.low)

  pub reads_more : (ws : List Bytes) (o o' : Out) (n' : ℕ) → Told 1 o n ws o' n' → (length (files ++ area) < 2 ^ 32) × ((count ≤ 65536) × (n' ≤ 2 ^ 61))
  reads_more ws o o' n' t = (a.names.small, (a.rows, omega (arith, a.low, t.few)))

module _ (s : Setting) (mem : Bytes) (cs : List Control) (w : Switch) (v u : Span) (port expected e : Name) (i j k : ℕ) (kp : Known mem (nth 1 (list (bytes mem v))) i port) (kx : Known mem (nth 0 (list (bytes mem u))) j expected) (ke : Known mem (nth 2 (list (bytes mem v))) k e) (eu : u ≡ span_of w.input) (t : Bool) (et : t ≡ same (name_of mem port) (name_of mem expected)) (o : Out) (n : ℕ) where
  expected_is : name_of mem expected ≡ nth 0 (list (string mem w.input))
  expected_is = kx.is ∙ ap (λ (x : Span). nth 0 (list (bytes mem x))) eu

  abbrev remark : Bytes
  remark = format3 "power switch '{0}': on_state uses input port '{1}' (expected '{2}')" (string mem w.name) (nth 1 (list (bytes mem v))) (nth 0 (list (string mem w.input)))

  test_is : same (on_of (bytes mem v)).port (nth 0 (list (string mem w.input))) ≡ t
  test_is = sym (et ∙ ap₂ same kp.is expected_is)

  pub state_same : (o' : Out) (n' : ℕ) → Told (2 ^ 34) o n (unknowns s cs 0 (name_of mem e)) o' n' → t ≡ true → Told (2 ^ 35) o n (on_remarks s (string mem w.name) (nth 0 (list (string mem w.input))) cs (on_of (bytes mem v))) o' n'
  state_same o' n' p d = rw (test_is, d) (told_then 0 (2 ^ 34) (2 ^ 35) o o o' n n n' [] (unknowns s cs 0 (nth 2 (list (bytes mem v)))) (told_none 0 o n) (rw ke.is at p) (omega arith))

  pub state_other : (o₁ o₂ : Out) (n₁ n₂ : ℕ) → Told (2 ^ 34) o₁ n₁ (unknowns s cs 0 (name_of mem e)) o₂ n₂ → Told 1 o n (format3 "power switch '{0}': on_state uses input port '{1}' (expected '{2}')" (string mem w.name) (name_of mem port) (name_of mem expected) ∷ []) o₁ n₁ → t ≡ false → Told (2 ^ 35) o n (on_remarks s (string mem w.name) (nth 0 (list (string mem w.input))) cs (on_of (bytes mem v))) o₂ n₂
  state_other o₁ o₂ n₁ n₂ p q d =
      rw (test_is, d) (told_then 1 (2 ^ 34) (2 ^ 35) o o₁ o₂ n n₁ n₂ (remark ∷ []) (unknowns s cs 0 (nth 2 (list (bytes mem v)))) (rw (kp.is, expected_is) at q) (rw ke.is at p) (omega arith))

-- ---- one after the other: what is left is told behind what was

pub record Remarks {A : Type 0} (f : A → List Bytes) (all left : List A) (o₀ : Out) (n₀ : ℕ) (o : Out) (n : ℕ) : Type 0 where
  pub text : emit o (each warning_line (flat_map f left)) ≡ emit o₀ (each warning_line (flat_map f all))
  pub count : n + length (flat_map f left) ≡ n₀ + length (flat_map f all)

flat_cons : {A : Type 0} (f : A → List Bytes) (x : A) (xs : List A) → flat_map f (x ∷ xs) ≡ f x ++ flat_map f xs
unfolding flat_map
flat_cons f x xs = refl

flat_none : {A : Type 0} (f : A → List Bytes) → flat_map f [] ≡ []
unfolding flat_map
flat_none f = refl

module _ {A : Type 0} (f : A → List Bytes) (all : List A) (o₀ : Out) (n₀ : ℕ) (o : Out) (n : ℕ) where
  remarks_next : (left left' : List A) (x : A) (most : ℕ) (o' : Out) (n' : ℕ) → Remarks f all left o₀ n₀ o n → left ≡ x ∷ left' → Told most o n (f x) o' n' → Remarks f all left' o₀ n₀ o' n'
  remarks_next left left' x most o' n' inv e t =
      let l = flat_map f left' in
      let z : flat_map f left ≡ f x ++ l = ap (flat_map f) e ∙ flat_cons f x left' in
      let c : n + length (f x ++ l) ≡ n₀ + length (flat_map f all) = rw z at inv.count in
      record {
        text = ap (λ (q : Out). emit q (each warning_line l)) t.text ∙ sym (ap (emit o) (each_append warning_line (f x) l) ∙ emit_append o (each warning_line (f x)) (each warning_line l)) ∙ (rw z at inv.text);
        count = omega (arith, c, t.count, length-append (f x) l);
      }

  remarks_done : (left : List A) (most : ℕ) → Remarks f all left o₀ n₀ o n → left ≡ [] → n ≤ n₀ + most → Told most o₀ n₀ (flat_map f all) o n
  remarks_done left most inv e h =
      let z : flat_map f left ≡ [] = ap (flat_map f) e ∙ flat_none f in
      let c : n + 0 ≡ n₀ + length (flat_map f all) = rw z at inv.count in
      record { text = sym (each_none warning_line o) ∙ (rw z at inv.text); count = omega (arith, c); few = h }

-- ---- the on-states of a switch

pub record OnsTold (f : OnState → List Bytes) (mem : Bytes) (nums : List ℕ) (first n : ℕ) (o₀ : Out) (n₀ : ℕ) (o : Out) (m k : ℕ) : Type 0 where
  pub remarked : Remarks f (ons_from mem nums first n) (ons_from mem nums (first + k) (n - k)) o₀ n₀ o m
  pub few : m ≤ n₀ + k * 2 ^ 35
  pub low : n₀ ≤ 2 ^ 59

pub ons_start : (f : OnState → List Bytes) (mem : Bytes) (nums : List ℕ) (first n : ℕ) (o : Out) (m : ℕ) → m ≤ 2 ^ 59 → OnsTold f mem nums first n o m o m 0
ons_start f mem nums first n o m h = let e : n - 0 ≡ n = omega arith in let z : first + 0 ≡ first = omega arith in record { remarked = rw (e, z) (record { text = refl; count = refl }); few = omega arith; low = h }

module _ (f : OnState → List Bytes) (mem : Bytes) (nums : List ℕ) (first n : ℕ) (o₀ : Out) (n₀ : ℕ) (o : Out) (m k : ℕ) (inv : OnsTold f mem nums first n o₀ n₀ o m k) where
  pub ons_next : (o' : Out) (m' : ℕ) (u : Span) (v : Stored) → Told (2 ^ 35) o m (f (on_of (bytes mem u))) o' m' → u ≡ span_of v → v ≡ word_at nums (first + k) → k < n → OnsTold f mem nums first n o₀ n₀ o' m' (k + 1)
  ons_next o' m' u v t eu ev h =
      let z : n - k ≡ suc (n - (k + 1)) = omega arith in
      let y : first + k + 1 ≡ first + (k + 1) = omega arith in
      let l : ons_from mem nums (first + k) (n - k) ≡ on_of (bytes mem u) ∷ ons_from mem nums (first + (k + 1)) (n - (k + 1)) = rw (z, eu, ev) (ons_cons mem nums (first + k) (n - (k + 1)) ∙ rw y) in
      record {
        remarked = remarks_next f (ons_from mem nums first n) o₀ n₀ o m (ons_from mem nums (first + k) (n - k)) (ons_from mem nums (first + (k + 1)) (n - (k + 1))) (on_of (bytes mem u)) (2 ^ 35) o' m' inv.remarked l t;
        few = omega (arith, inv.few, t.few);
        low = inv.low;
      }

  ons_done : n ≤ k → k ≤ n → n ≤ 4032 → Told (2 ^ 48) o₀ n₀ (flat_map f (ons_from mem nums first n)) o m
  ons_done h g l =
      let z : n - k ≡ 0 = omega arith in
      remarks_done f (ons_from mem nums first n) o₀ n₀ o m (ons_from mem nums (first + k) (n - k)) (2 ^ 48) inv.remarked (rw z (ons_none mem nums (first + k))) (omega (arith, inv.few))

  pub ons_told : (files area : List ℕ) (w : Switch) → n ≤ k → k ≤ n → OfSwitch files area nums w → first ≡ w.first → n ≡ w.ons → Told (2 ^ 48) o₀ n₀ (flat_map f (ons_from mem nums w.first w.ons)) o m
  ons_told files area w h g a ef en = rw (ef, en) at (ons_done h g (omega (arith, a.count, en)))

  pub ons_reads : (files area : List ℕ) (w : Switch) (table : List ℕ) (count : ℕ) (u : Span) (v : Stored) → OfSwitch files area nums w → Controlled (files ++ area) w table count → first ≡ w.first → n ≡ w.ons → u ≡ span_of v → v ≡ word_at nums (first + k) → k < n → Reads files area count w u m
  ons_reads files area w table count u v a t ef en eu ev h =
      record {
        names = a.names;
        value = whole_by (length files) (length (files ++ area)) u a.names.small (rw (eu, ev) (a.words (first + k) (omega (arith, ef, en))));
        rows = omega (arith, t.few);
        low = omega (arith, inv.few, inv.low, en, a.count);
      }

pub ons_low : (files area nums : List ℕ) (w : Switch) (f n k : ℕ) → OfSwitch files area nums w → f ≡ w.first → n ≡ w.ons → k < n → f + k < 4032
ons_low files area nums w f n k a ef en h = omega (arith, a.count, ef, en)

pub ons_fits : (files area nums : List ℕ) (w : Switch) (f n k : ℕ) → OfSwitch files area nums w → f ≡ w.first → n ≡ w.ons → k < n → f + k < 2 ^ 64
ons_fits files area nums w f n k a ef en h = omega (arith, a.count, ef, en)

-- ---- a switch

port_is : (mem : Bytes) (nums : List ℕ) (w : Switch) → nth 0 (list (string mem w.input)) ≡ (switch_in mem nums w).input.port
unfolding switch_of
port_is mem nums w = sym (supply_port (string mem w.scope) (list (string mem w.input)))

name_is : (mem : Bytes) (nums : List ℕ) (w : Switch) → string mem w.name ≡ (switch_in mem nums w).name
unfolding switch_of
name_is mem nums w = refl

controls_are : (mem : Bytes) (nums : List ℕ) (w : Switch) → controls_of (list (string mem w.controls)) ≡ (switch_in mem nums w).controls
unfolding switch_of
controls_are mem nums w = refl

module _ (s : Setting) (mem : Bytes) (nums : List ℕ) (w : Switch) (table : List ℕ) (count : ℕ) (t : Controlled mem w table count) where
  remarks_are : flat_map (on_remarks s (string mem w.name) (nth 0 (list (string mem w.input))) (controls_of (table_names mem table count))) (ons_from mem nums w.first w.ons) ≡ flat_map (on_warnings s (switch_in mem nums w)) (switch_in mem nums w).on_states
  remarks_are =
      ap₂ (λ (x : Bytes) (cs : List Control). flat_map (on_remarks s (string mem w.name) x cs) (ons_from mem nums w.first w.ons)) (port_is mem nums w) (ap controls_of t.are ∙ controls_are mem nums w)
      ∙ ap (λ (x : Bytes). flat_map (on_remarks s x (switch_in mem nums w).input.port (switch_in mem nums w).controls) (ons_from mem nums w.first w.ons)) (name_is mem nums w)
      ∙ ap (flat_map (on_warnings s (switch_in mem nums w))) (sym (ons_are mem nums w))

  pub switch_told : (o o' : Out) (n n' : ℕ) → Told (2 ^ 48) o n (flat_map (on_remarks s (string mem w.name) (nth 0 (list (string mem w.input))) (controls_of (table_names mem table count))) (ons_from mem nums w.first w.ons)) o' n' → Told (2 ^ 48) o n (flat_map (on_warnings s (switch_in mem nums w)) (switch_in mem nums w).on_states) o' n'
  switch_told o o' n n' p =
      record { text = p.text ∙ ap (λ (l : List Bytes). emit o (each warning_line l)) remarks_are; count = p.count ∙ ap (λ (l : List Bytes). n + length l) remarks_are; few = p.few }

-- ---- all switches

abbrev of_switch : Setting → Switchʳ → List Bytes
of_switch s w = flat_map (on_warnings s w) w.on_states

pub record AllTold (s : Setting) (mem : Bytes) (nums : List ℕ) (t : Few Switch) (o₀ : Out) (n₀ : ℕ) (o : Out) (m i : ℕ) : Type 0 where
  pub remarked : Remarks (λ (w : Switchʳ). flat_map (on_warnings s w) w.on_states) (map (switch_in mem nums) (take t.n t.all)) (map (switch_in mem nums) (drop i (take t.n t.all))) o₀ n₀ o m
  pub few : m ≤ n₀ + i * 2 ^ 48
  pub low : n₀ ≤ 2 ^ 58

pub all_start : (s : Setting) (mem : Bytes) (nums : List ℕ) (t : Few Switch) (o : Out) (m : ℕ) → m ≤ 2 ^ 58 → AllTold s mem nums t o m o m 0
all_start s mem nums t o m h = record { remarked = record { text = refl; count = refl }; few = omega arith; low = h }

module _ (files area nums : List ℕ) (t : Few Switch) (a : OfSwitches files area nums t) (s : Setting) (o₀ : Out) (n₀ : ℕ) (o : Out) (m i : ℕ) (inv : AllTold s (files ++ area) nums t o₀ n₀ o m i) where
  pub all_one : (d : Switch) → i < t.n → OfSwitch files area nums (get_or t.all i d)
  all_one d h = a.each i h d

  pub all_low : i < t.n → m ≤ 2 ^ 59
  all_low h = omega (arith, inv.few, inv.low, a.sized.count)

  pub all_next : (d : Switch) (o' : Out) (m' : ℕ) → Told (2 ^ 48) o m (flat_map (on_warnings s (switch_in (files ++ area) nums (get_or t.all i d))) (switch_in (files ++ area) nums (get_or t.all i d)).on_states) o' m' → i < t.n → AllTold s (files ++ area) nums t o₀ n₀ o' m' (i + 1)
  all_next d o' m' p h =
      let g = switch_in (files ++ area) nums in
      record {
        remarked = remarks_next (of_switch s) (map g (take t.n t.all)) o₀ n₀ o m (map g (drop i (take t.n t.all))) (map g (drop (i + 1) (take t.n t.all))) (g (get_or t.all i d)) (2 ^ 48) o' m' inv.remarked (ap (map g) (sized_next t.n t.all a.sized i d h)) p;
        few = omega (arith, inv.few, p.few);
        low = inv.low;
      }

  pub all_done : t.n ≤ i → i ≤ t.n → Told (2 ^ 54) o₀ n₀ (remarks s (map (switch_in (files ++ area) nums) (take t.n t.all))) o m
  all_done h g =
      remarks_done (of_switch s) (map (switch_in (files ++ area) nums) (take t.n t.all)) o₀ n₀ o m (map (switch_in (files ++ area) nums) (drop i (take t.n t.all))) (2 ^ 54) inv.remarked (ap (map (switch_in (files ++ area) nums)) (sized_end t.n t.all a.sized i h)) (omega (arith, inv.few, a.sized.count))
