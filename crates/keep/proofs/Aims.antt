-- A port that is aimed at: each law is stated as a need asks it. Assumes nothing.
use Prim.Native.Nat.{ℕ, suc, ◌+◌, ◌-◌, ◌≤◌, ◌<◌, ◌^◌, min}
use native.Mathlib.Omega.{arith}
use mathlib.Core.Path.{◌≡◌, refl, sym, ap, ◌∙◌}
use mathlib.Core.Bool.{Bool, true, false, cond, not, ◌||◌}
use mathlib.Core.List.{List, [], ◌∷◌, ◌++◌}
use Rattle.std.specs.Prelude.{None, Some}
use lib.Dec.{eqb}
use lib.ListN.{length, length-append}
use borrow.Author.Rules.{rules}
use borrow.Author.Tests.{eq-eqb, ne_eqb, lt-ltb, le-ltb, not-false, eqb-true, eqb-false}
use Rattle.text.specs.Ascii.{Bytes, ascii}
use Rattle.text.specs.Compare.{same}
use Rattle.text.specs.Scan.{any}
use Rattle.text.specs.Sames.{no_true}
use Rattle.out.specs.Emit.{Out, ◌▸◌, emit}
use Rattle.out.specs.Fill.{fill, turns}
use Rattle.out.specs.Items.{each}
use Rattle.spans.specs.Span.{◌⋯◌}
use Rattle.spans.specs.declared.span.Span.{Span}
use Rattle.names.specs.Name.{named, name_of}
use Rattle.names.specs.declared.name.Name.{Name}
use Rattle.jobindex.specs.declared.Span.{Span as Part}
use Rattle.refs.specs.Text.{no_name, text_of}
use Rattle.refs.specs.declared.Ref.{Ref}
use Rattle.design.specs.Lists.{is_in}
use Rattle.actual.specs.declared.Net.{Net}
use Rattle.actual.specs.declared.Net.TheVariants as net
use Rattle.texts.specs.Texts.{warning_line}
use Rattle.texts.specs.Laws.{one_warning}
use Rattle.format.specs.declared.arg.Wrap.{Wrap}
use Rattle.format.specs.Args.{arg_of, name_arg, wrapped_arg}
use Rattle.format.specs.Laws.{name_arg_lem, plain_arg}
use Rattle.format.specs.declared.arg.Arg.{Arg}
use Rattle.isolated.specs.Table.{Fits, port_row, port_put, port_ref, net_ref, Kept, kept, kept_of, kept_from, kept_in, keys_of}
use Rattle.isolated.specs.Others.{Other}
use Rattle.isolated.specs.Laws.{kept_next, kept_none, kept_long, put_kept}
use Rattle.isolated.specs.declared.Isolated.{Isolated}
use Rattle.keep.specs.Gains.{not_plain, gain_from, gain_of}
use Rattle.keep.specs.Held.{held_span, held_name, held_part, part_held}
use Rattle.keep.specs.Covered.{more, counted, refused_cover, counted_cover, warned_cover, Ready, Remarked, KeepSeen, with_net, aim_of, Answer}
use Rattle.keep.specs.Turns.{answer_stay, said_none}
use Rattle.keep.specs.Warned.{warned_line, not_warned}
use Rattle.keep.specs.declared.Cover.{Cover}

-- ---- numbers

pub more_yes : (n : ℕ) → n < 513 → n + 1 ≡ more n
unfolding more
more_yes n h = sym (rw (lt-ltb n 513 h))

pub more_no : (n : ℕ) → 513 ≤ n → n ≡ more n
unfolding more
more_no n h = sym (rw (le-ltb n 513 h))

pub span_held : (files area : Bytes) (s : Span) (a n : ℕ) → a ≡ min s.at (length files + length area) → n ≡ min s.len (length files + length area) → (a ⋯ n) ≡ held_span (files ++ area) s
span_held files area s a n e f = rw (e, f, length-append files area)

pub part_of_job : (job : Bytes) (s : Part) (a n : ℕ) → a ≡ min s.at (length job) → n ≡ min s.len (length job) → ◌≡◌ {A = Part} (record { at = a; len = n }) (held_part job s)
part_of_job job s a n e f = rw (e, f)

pub ruleset numbers = (rules, more_yes, more_no, span_held, part_of_job)

pub name_held : (mem : Bytes) (n : Name) (s w : Span) → s ≡ held_span mem n.scope → w ≡ held_span mem n.word → named s n.sep w n.form ≡ held_name mem n
name_held mem n s w e f = rw (e, f)

pub warned_is : (c : Cover) (o m : ℕ) → m ≡ more c.warnings → ◌≡◌ {A = Cover} (record { over = c.over; ports = c.ports; warnings = m; at = o }) (warned_cover c o)
warned_is c o m e = rw e

pub ruleset made = (rules, name_held, warned_is)

-- ---- whether it is covered: none of the first k is it

pub record Seeks (job mem : Bytes) (t : List ℕ) (n : ℕ) (key : Bytes) (k : ℕ) : Type 0 where
  pub before : k ≤ n
  pub left : is_in key (keys_of (kept_in job mem t n)) ≡ is_in key (keys_of (kept_from job mem t k (n - k)))

module _ (job mem : Bytes) (t : List ℕ) (n : ℕ) (key : Bytes) where
  pub seek_start : Seeks job mem t n key 0
  seek_start = let z : n - 0 ≡ n = omega arith in record { before = omega arith; left = rw z }

  module _ (k : ℕ) (inv : Seeks job mem t n key k) where
    pub seek_end : n ≤ k → false ≡ is_in key (keys_of (kept_in job mem t n))
    unfolding any
    seek_end h = let z : n - k ≡ 0 = omega arith in sym (inv.left ∙ rw (z, kept_none job mem t k))

    module _ (h : k < n) (b : Bool) (g : b ≡ same key (text_of job mem (port_ref (port_row t k)))) where
      opened : is_in key (keys_of (kept_in job mem t n)) ≡ b || is_in key (keys_of (kept_from job mem t (k + 1) (n - (k + 1))))
      unfolding any
      opened =
          let z : n - k ≡ suc (n - (k + 1)) = omega arith in
          inv.left ∙ rw (z, kept_next job mem t k (n - (k + 1)), g)

      pub seek_here : b ≡ true → true ≡ is_in key (keys_of (kept_in job mem t n))
      seek_here d = sym (opened ∙ rw d)

      pub seek_on : b ≡ false → Seeks job mem t n key (k + 1)
      seek_on d = record { before = omega arith; left = opened ∙ rw d }

pub ruleset seeks = (rules, seek_start, seek_end, seek_here, seek_on)

-- row k is surely another one
pub seek_other : (job mem : Bytes) (t : List ℕ) (n k : ℕ) (x : Isolated) (p : Ref) (r : Bool) → Seeks job mem t n (text_of job mem p) k → k < n → p ≡ port_ref x → Other job mem x (port_row t k) r → r ≡ true → Seeks job mem t n (text_of job mem p) (k + 1)
seek_other job mem t n k x p r inv h e o d =
    let b : false ≡ same (text_of job mem p) (text_of job mem (port_ref (port_row t k))) = o.is d ∙ sym (ap (λ (q : Ref). same (text_of job mem q) (text_of job mem (port_ref (port_row t k)))) e) in
    seek_on job mem t n (text_of job mem p) k inv h false b refl

pub row_few : (n k : ℕ) → n ≤ 256 → k < n → k < 256
row_few n k f h = omega arith

pub row_more : (n k : ℕ) → n ≤ 256 → k < n → k + 1 < 2 ^ 64
row_more n k f h = omega arith

pub row_left : (n k : ℕ) → k < n → n - (k + 1) < n - k
row_left n k h = omega arith

-- ---- whether row k is this port

pub row_same : (job mem : Bytes) (p : Ref) (t : List ℕ) (k : ℕ) (y : Isolated) (q : Ref) (r : Bool) → y ≡ port_row t k → q ≡ port_ref y → r ≡ same (text_of job mem p) (text_of job mem q) → r ≡ same (text_of job mem p) (text_of job mem (port_ref (port_row t k)))
row_same job mem p t k y q r e f g = g ∙ rw (f, e)

pub ruleset rows = (rules, row_same)

-- ---- a port more

module _ (c : Cover) (x : Isolated) (t : List ℕ) where
  pub keep_full : (r : Cover) → r ≡ refused_cover → c.ports ≡ 256 → KeepSeen c x t r t
  keep_full r e h = record { answer = rw (eq-eqb c.ports 256 h) e; table = rw (eq-eqb c.ports 256 h) }

  pub keep_put : (t' : List ℕ) → t' ≡ port_put t c.ports x → (c.ports ≡ 256 → ⊥) → KeepSeen c x t (counted_cover c) t'
  keep_put t' e h = record { answer = rw (ne_eqb c.ports 256 h); table = rw (ne_eqb c.ports 256 h) e }

pub ruleset keeps = (rules, keep_full, keep_put)

-- ---- a warning more

warning_is : (n p : Bytes) → fill (ascii "warning: isolation strategy '{0}': port '{1}' actual is not a plain net; not simulated\n") n p [] [] [] ≡ each warning_line (not_plain n p ∷ [])
unfolding turns
warning_is n p = warned_line (ascii "isolation strategy '{0}': port '{1}' actual is not a plain net; not simulated") n p [] [] [] refl ∙ sym (one_warning (not_plain n p))

module _ (warn : Bool) (c : Cover) (out : Bytes) where
  pub plain_warned : (job mem : Bytes) (scope : List Bytes) (top : Bytes) (n : Name) (p : Ref) (a b : Arg) (z₀ z₁ : Out) (out' : Bytes) (o : ℕ) (r : Cover)
      → z₁ ≡ emit z₀ (fill (ascii "warning: isolation strategy '{0}': port '{1}' actual is not a plain net; not simulated\n") (arg_of job mem scope top a) (arg_of job mem scope top b) [] [] [])
      → z₀ ≡ out ▸ c.at → out' ▸ o ≡ z₁
      → a ≡ name_arg n → b ≡ wrapped_arg Wrap.Plain p → r ≡ warned_cover c o → not warn ≡ false → Remarked warn (not_plain (name_of mem n) (text_of job mem p)) c out r out'
  plain_warned job mem scope top n p a b z₀ z₁ out' o r e₁ e₀ k f g h w =
      let e : out' ▸ o ≡ emit (out ▸ c.at) (fill (ascii "warning: isolation strategy '{0}': port '{1}' actual is not a plain net; not simulated\n") (arg_of job mem scope top a) (arg_of job mem scope top b) [] [] []) = k ∙ (rw e₀ at e₁) in
      let s : arg_of job mem scope top a ≡ name_of mem n = ap (arg_of job mem scope top) f ∙ name_arg_lem job mem scope top n in
      let q : arg_of job mem scope top b ≡ text_of job mem p = ap (arg_of job mem scope top) g ∙ plain_arg job mem scope top p in
      let z : out' ▸ o ≡ emit (out ▸ c.at) (each warning_line (not_plain (name_of mem n) (text_of job mem p) ∷ [])) = e ∙ rw (s, q) (ap (emit (out ▸ c.at)) (warning_is (name_of mem n) (text_of job mem p))) in
      record { is = rw h; text = rw (h, not-false warn w) z }

pub ruleset warns = (rules, not_warned, plain_warned)

-- ---- with a net of the job

pub net_with : (job : Bytes) (x : Isolated) (n p : Part) (l : Name) → p ≡ held_part job n → l ≡ no_name
    → ◌≡◌ {A = Isolated} (record { strategy = x.strategy; element = x.element; sep = x.sep; at = x.at; len = x.len; upto = x.upto; last = l; net = p.at; size = p.len }) (with_net x (held_part job n))
net_with job x n p l e f = rw (e, f)

pub ruleset nets = (rules, net_with)

pub with_fits : (job : Bytes) (x y : Isolated) (n : Part) → y ≡ with_net x (held_part job n) → Fits x → length job < 2 ^ 32 → Fits y
with_fits job x y n e f h =
    rw e
    (record {
      element = f.element;
      last = record { scope_at = omega arith; scope_len = omega arith; word_at = omega arith; word_len = omega arith };
      strategy = f.strategy;
      at = f.at;
      len = f.len;
      upto = f.upto;
      net = omega (arith, h);
      size = omega (arith, h);
    })

pub keep_with : (job : Bytes) (c : Cover) (x y : Isolated) (n : Part) (t t' : List ℕ) (r : Cover) → KeepSeen c y t r t' → y ≡ with_net x (held_part job n) → KeepSeen c (with_net x (held_part job n)) t r t'
keep_with job c x y n t t' r m e = rw (← e) m

pub ruleset withs = (rules, with_fits, keep_with)

-- ---- the answers

module _ (job mem : Bytes) (warn : Bool) (c : Cover) (out : Bytes) (t : List ℕ) (ready : Ready c t) (name : Bytes) (x : Isolated) (p : Ref) (ep : p ≡ port_ref x) (b : Bool) (eb : b ≡ is_in (text_of job mem p) (keys_of (kept_in job mem t c.ports))) where
  abbrev rows_now : List Kept
  rows_now = kept_in job mem t c.ports

  abbrev key_now : Bytes
  key_now = text_of job mem (port_ref x)

  known : (d : Bool) → b ≡ d → is_in key_now (keys_of rows_now) ≡ d
  known d h = ap (λ (y : Ref). is_in (text_of job mem y) (keys_of rows_now)) (sym ep) ∙ (sym eb ∙ h)

  pub aim_covered : (n : Net) → b ≡ true → Answer job mem warn c out (gain_of x.strategy name (aim_of job mem x n) rows_now) c out t
  unfolding gain_of
  aim_covered n h = rw (known true h) (answer_stay job mem warn c out t ready)

  pub aim_none : b ≡ false → (n : Net) → n ≡ net.None → (r : Cover) (out' : Bytes) → Remarked warn (not_plain name (text_of job mem p)) c out r out' → Answer job mem warn c out (gain_of x.strategy name (aim_of job mem x n) rows_now) r out' t
  unfolding gain_of counted
  aim_none h n g r out' m =
      let k : is_in key_now (keys_of rows_now) ≡ false = known false h in
      let q : r ≡ warned_cover c r.at = m.is in
      let v : r.over ≡ false = ap (λ (y : Cover). y.over) q ∙ ready.going in
      let u : r.ports ≡ c.ports = ap (λ (y : Cover). y.ports) q in
      let w : r.warnings ≡ more c.warnings = ap (λ (y : Cover). y.warnings) q in
      rw (g, k)
      (record {
        ready = λ o. record { going = v; few = omega (arith, u, ready.few); long = ready.long };
        rows = λ o. ap (kept_in job mem t) u;
        warnings = λ o. w;
        text = λ o. rw (← ep) m.text;
        refused = λ o. absurd (no_true (sym v ∙ o));
      })

  -- one is kept
  kept_answer : is_in key_now (keys_of rows_now) ≡ false → (y : Isolated) (w : Bytes) → kept_of job mem y ≡ kept x.strategy key_now w → (r : Cover) (t' : List ℕ) → KeepSeen c y t r t' → length t' ≡ length t
      → Answer job mem warn c out (gain_from x.strategy name key_now rows_now (Some w)) r out t'
  unfolding emit counted
  kept_answer k y w e r t' m lt = go (eqb c.ports 256) refl m.answer m.table
    where
      go : (d : Bool) → eqb c.ports 256 ≡ d → r ≡ cond d refused_cover (counted_cover c) → t' ≡ cond d t (port_put t c.ports y) → Answer job mem warn c out (gain_from x.strategy name key_now rows_now (Some w)) r out t'
      go true d a f =
          let v : r.over ≡ true = ap (λ (z : Cover). z.over) a in
          let l : length (rows_now ++ (kept x.strategy key_now w ∷ [])) ≡ length rows_now + 1 = length-append rows_now (kept x.strategy key_now w ∷ []) in
          record {
            ready = λ o. absurd (no_true (sym o ∙ v));
            rows = λ o. absurd (no_true (sym o ∙ v));
            warnings = λ o. absurd (no_true (sym o ∙ v));
            text = λ o. absurd (no_true (sym o ∙ v));
            refused = λ o. omega (arith, l, kept_long job mem t 0 c.ports, eqb-true c.ports 256 d);
          }
      go false d a f =
          let v : r.over ≡ false = ap (λ (z : Cover). z.over) a ∙ ready.going in
          let u : r.ports ≡ c.ports + 1 = ap (λ (z : Cover). z.ports) a in
          let s : r.at ≡ c.at = ap (λ (z : Cover). z.at) a in
          let n : c.ports < 256 = omega (arith, ready.few, eqb-false c.ports 256 d) in
          record {
            ready = λ o. record { going = v; few = omega (arith, u, n); long = rw lt ready.long };
            rows = λ o. ap (kept_in job mem t') u ∙ ap (λ (z : List ℕ). kept_in job mem z (c.ports + 1)) f ∙ put_kept t c.ports y (omega (arith, ready.long, n)) job mem ∙ ap (λ (z : Kept). rows_now ++ (z ∷ [])) e;
            warnings = λ o. ap (λ (z : Cover). z.warnings) a;
            text = λ o. rw (said_none warn, s);
            refused = λ o. absurd (no_true (sym v ∙ o));
          }

  net_same : (s : Part) → kept_of job mem (with_net x (held_part job s)) ≡ kept x.strategy key_now (text_of job mem (net_ref (with_net x s)))
  unfolding text_of
  net_same s = rw (part_held job s.at s.len)

  module _ (h : b ≡ false) (n : Net) (r : Cover) (t' : List ℕ) (lt : length t' ≡ length t) where
    pub aim_own : n ≡ net.Own → KeepSeen c x t r t' → Answer job mem warn c out (gain_of x.strategy name (aim_of job mem x n) rows_now) r out t'
    unfolding gain_of
    aim_own g m = rw (g, known false h) (kept_answer (known false h) x (text_of job mem (net_ref x)) refl r t' m lt)

    pub aim_of_lem : (s : Part) → n ≡ net.Of s → KeepSeen c (with_net x (held_part job s)) t r t' → Answer job mem warn c out (gain_of x.strategy name (aim_of job mem x n) rows_now) r out t'
    unfolding gain_of
    aim_of_lem s g m = rw (g, known false h) (kept_answer (known false h) (with_net x (held_part job s)) (text_of job mem (net_ref (with_net x s))) (net_same s) r t' m lt)

pub ruleset aims = (rules, aim_covered, aim_none, aim_own, aim_of_lem)
