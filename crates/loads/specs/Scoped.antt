-- Laws: the invariant and the records when the scope has moved. Assumes nothing.
use Rattle.std.specs.Prelude.{ℕ, zero, suc, ◌+◌, ◌-◌, ◌≤◌, ◌<◌, ◌≡◌, refl, Bool, true, false, cond, ◌&&◌, List, ◌∷◌, ◌++◌, leb, length, take, drop}
use Rattle.std.proofs.Common.{arith, sym, ap, ◌∙◌, drop-drop, le-leb}
use Rattle.text.specs.Ascii.{Bytes}
use Rattle.spans.specs.Span.{bytes, pair_at, pairs, strings}
use Rattle.spans.specs.Frame.{known_grows, last_end, strings_same}
use Rattle.spans.specs.Reach.{last_of, reach, last_end_lem}
use Rattle.args.specs.View.{words_from}
use Rattle.args.specs.Laws.{words_all, words_here}
use Rattle.model.specs.Records.{Model, with_scope}
use Rattle.model.specs.Within.{records_fit, counts_fit}
use Rattle.read.specs.Reading.{Reading}
use Rattle.store.specs.Strings.{string, span_of}
use Rattle.store.specs.View.{Store, model_of}
use Rattle.store.specs.Order.{Shaped, Bounded}
use Rattle.store.specs.Frame.{model_same}
use Rattle.store.specs.Fits.{fits_all, fit_scope}
use Rattle.store.specs.Rows.{store_of}
use Rattle.store.specs.Variables.{now_fits}
use Rattle.store.specs.declared.stored.Stored.{Stored}
use Rattle.store.specs.declared.state.State.{State}
use Rattle.made.specs.Made.{reach_of}
use Rattle.scopes.specs.declared.go.Out.{Out}
use Rattle.scopes.specs.Moves.{scope_fits, moved_to, place_of, Space, Line as Space-as-Line, In}
use Rattle.held.specs.Grows.{bounded_more, bounded_ends}
use Rattle.held.specs.Held.{mem_of, model_at, counted_of, Lends, Held, Worded}

-- ---- the words of a command
pub line_is_lem : (mem : Bytes) (words : List ℕ) (n : ℕ) → 0 < n → strings mem words 0 n ≡ bytes mem (pair_at words 0) ∷ words_from mem words n 1
line_is_lem mem words n h = sym (words_all mem words n) ∙ words_here mem words n 0 h

last_tail : (words : List ℕ) (k n : ℕ) → last_end (pairs words (k + 1) n) ≤ last_end (pairs words k (suc n))
unfolding pairs last_end
last_tail words k n = omega arith

rest_end : (words : List ℕ) (n : ℕ) → 0 < n → last_end (pairs words 1 (n - 1)) ≤ last_end (pairs words 0 n)
rest_end words zero h = absurd (omega arith)
rest_end words (suc n) h = let q : suc n - 1 ≡ n = omega arith in rw q (last_tail words 0 n)

-- the words behind the name are the same where more of the area is used
pub words_grow : (files area area' : Bytes) (words : List ℕ) (n o e : ℕ) → 0 < n → o ≤ e → take o area' ≡ take o area → last_of (reach (length files)) (pairs words 0 n) ≤ length files + o
    → words_from (files ++ take e area') words n 1 ≡ words_from (files ++ take o area) words n 1
words_grow files area area' words n o e h g k w =
    strings_same (length files + o) (files ++ take o area) (files ++ take e area') (pairs words 1 (n - 1))
    (omega (arith, rest_end words n h, last_end_lem (length files) (pairs words 0 n), w))
    (known_grows files area area' o e g k)

-- ---- what moving the scope asks
module _ (files area nums : List ℕ) (k : ℕ) (s : State) (v : Held files area nums k s) where
  pub space : Space files area (place_of s)
  space = record { counted = v.scopes; room = omega (arith, v.end, v.substituted, v.lends.area_long, v.scopes); scope = v.bounded.scope; small = v.lends.small }

  pub scoping : (words : List ℕ) (n : ℕ) → Worded files words n s → Space-as-Line files area words n (place_of s)
  scoping words n w = record { space = space; line = w }

-- ---- the order looks at the scope alone
moved_shaped : (st : Store) (s : State) (x : Stored) (a e : ℕ) → Shaped st s → x.len ≤ 512 → Shaped st (moved_to s x a e)
moved_shaped st s x a e v h = record { scope = h; domains = v.domains; nets = v.nets; ports = v.ports; switches = v.switches; isolations = v.isolations; retentions = v.retentions; shifters = v.shifters; portstates = v.portstates; tables = v.tables; long = v.long; variables = v.variables; switch_words = v.switch_words; port_words = v.port_words; row_tables = v.row_tables; rows = v.rows; words = v.words; warnings = v.warnings; warned = v.warned }

moved_bounded : (f : Stored → ℕ) (n : ℕ) (st : Store) (s : State) (x : Stored) (a e : ℕ) → Bounded f n st s → f x ≤ n → Bounded f n st (moved_to s x a e)
moved_bounded f n st s x a e v h = record { scope = h; top = v.top; domains = v.domains; nets = v.nets; ports = v.ports; switches = v.switches; isolations = v.isolations; retentions = v.retentions; shifters = v.shifters; portstates = v.portstates; tables = v.tables; variables = v.variables; rows = v.rows; words = v.words }

moved_view : (mem : Bytes) (st : Store) (s : State) (x : Stored) (a e : ℕ) (log : Bytes) → model_of mem st (moved_to s x a e) log ≡ with_scope (model_of mem st s log) (string mem x)
unfolding model_of
moved_view mem st s x a e log = refl

-- ---- the scope has moved
module _ (files area area' nums : List ℕ) (s : State) (v : Held files area nums 1 s) (l : Lends files area' nums) where
  module _ (x : Stored) (t : Bytes) (e : ℕ) (more : s.fill.end ≤ e) (few : e ≤ s.fill.end + length t) (kept : take s.fill.end area' ≡ take s.fill.end area)
      (reaches : reach (length files) (span_of x) ≤ length files + e) (long : x.len ≤ 512) (is : string (files ++ take e area') x ≡ t) (fits : s.count.scopes + length t ≤ 8192) (counted : s.count.commands ≤ 1024) where
    moved_held : Held files area' nums 0 (moved_to s x (s.count.scopes + length t) e)
    moved_held =
        record {
          lends = l;
          shaped = moved_shaped (store_of nums s) s x (s.count.scopes + length t) e v.shaped long;
          bounded = moved_bounded (reach_of (length files)) (length files + e) (store_of nums s) s x (s.count.scopes + length t) e (bounded_more (reach_of (length files)) (length files + s.fill.end) (length files + e) (store_of nums s) s (omega arith) v.bounded) reaches;
          commands = omega (arith, counted);
          substituted = v.substituted;
          scopes = fits;
          entries = v.entries;
          end = omega (arith, v.end);
          rows = omega (arith, v.rows);
          words = v.words;
        }

    moved_model : (log : Bytes) → model_at files area' nums (moved_to s x (s.count.scopes + length t) e) log ≡ with_scope (model_at files area nums s log) t
    moved_model log =
        moved_view (files ++ take e area') (store_of nums s) s x (s.count.scopes + length t) e log
        ∙ ap (λ (m : Model). with_scope m (string (files ++ take e area') x))
        (model_same (length files + s.fill.end) (mem_of files area s) (files ++ take e area') (known_grows files area area' s.fill.end e more kept) (store_of nums s) s log
        (bounded_ends (length files) (length files + s.fill.end) (store_of nums s) s v.bounded))
        ∙ ap (with_scope (model_at files area nums s log)) is

  module _ (t : Bytes) (r : Out) (g : In files area area' s t r) (fits : s.count.scopes + length t ≤ 8192) (counted : s.count.commands ≤ 1024) where
    pub in_held : Held files area' nums 0 r.state
    in_held = rw g.state (moved_held r.state.head.scope t r.state.fill.end g.more g.few g.kept g.reaches g.long g.scope fits counted)

    pub in_model : (log : Bytes) → model_at files area' nums r.state log ≡ with_scope (model_at files area nums s log) t
    in_model log = ap (λ (u : State). model_at files area' nums u log) g.state ∙ moved_model r.state.head.scope t r.state.fill.end g.more g.few g.kept g.reaches g.long g.scope fits counted log

    pub in_counted : counted_of r.state ≡ record { commands = s.count.commands; substituted = s.count.substituted; scopes = s.count.scopes + length t; entries = s.count.entries }
    in_counted = ap counted_of g.state

    pub in_log : r.state.fill.log ≡ s.fill.log
    in_log = ap (λ (u : State). u.fill.log) g.state

-- nothing has moved
module _ (files area nums : List ℕ) (s : State) (v : Held files area nums 1 s) (counted : s.count.commands ≤ 1024) where
  pub still_held : Held files area nums 0 s
  still_held =
      record {
        lends = v.lends;
        shaped = v.shaped;
        bounded = v.bounded;
        commands = omega (arith, counted);
        substituted = v.substituted;
        scopes = v.scopes;
        entries = v.entries;
        end = v.end;
        rows = omega (arith, v.rows);
        words = v.words;
      }

  -- ---- the limits of a scope
  pub scope_within : (log t : Bytes) → (counts_fit (record { commands = s.count.commands; substituted = s.count.substituted; scopes = s.count.scopes + length t; entries = s.count.entries }) && records_fit (with_scope (model_at files area nums s log) t))
      ≡ scope_fits s.count.scopes t
  scope_within log t =
      rw (le-leb s.count.commands 1024 counted, le-leb s.count.substituted 16384 v.substituted, le-leb s.count.entries 1024 v.entries, fit_scope (model_at files area nums s log) (now_fits (mem_of files area s) (store_of nums s) s log v.shaped) t)
      (swap (leb (s.count.scopes + length t) 8192) (leb (length t) 512))
    where
      swap : (a b : Bool) → ((a && true) && b) ≡ (b && a)
      swap true true = refl
      swap true false = refl
      swap false true = refl
      swap false false = refl

  pub now_within : (log : Bytes) → (counts_fit (counted_of s) && records_fit (model_at files area nums s log)) ≡ true
  now_within log =
      rw (le-leb s.count.commands 1024 counted, le-leb s.count.substituted 16384 v.substituted, le-leb s.count.scopes 8192 v.scopes, le-leb s.count.entries 1024 v.entries)
      (fits_all (model_at files area nums s log) (now_fits (mem_of files area s) (store_of nums s) s log v.shaped))

-- ---- what a caller of the scope's laws meets

-- what is kept behind e is kept behind 24,576
pub far : (area area' : List ℕ) (e : ℕ) → e ≤ 24576 → drop e area' ≡ drop e area → drop 24576 area' ≡ drop 24576 area
far area area' e h g =
    let q : e + (24576 - e) ≡ 24576 = omega arith in
    rw q at (sym (drop-drop (24576 - e) e area') ∙ ap (drop (24576 - e)) g ∙ drop-drop (24576 - e) e area)

-- two tests that come to the same
pub cond_is : (b c : Bool) (x y : Reading) → b ≡ c → cond b x y ≡ cond c x y
cond_is b c x y e = rw e
