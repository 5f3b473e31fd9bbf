-- Laws: one command, from what its parts come to. Assumes nothing.
use Rattle.std.specs.Prelude.{Option, Some, None}
use Rattle.std.specs.Prelude.{ℕ, zero, suc, ◌+◌, ◌-◌, ◌≤◌, ◌<◌, ◌^◌, ◌≡◌, refl, Bool, true, false, cond, ◌&&◌, List, [], ◌∷◌, leb, length, take, drop}
use Prim.Native.String.{String}
use Rattle.std.proofs.Common.{arith, sym, ◌∙◌, length-append, length-take-le, eq-eqb, ne_eqb, leb-true}
use Rattle.std.proofs.Math.Path.{ap}
use Rattle.text.specs.Ascii.{Bytes}
use Rattle.text.specs.Scan.{all}
use Rattle.text.specs.Sames.{no_true, both}
use Rattle.spans.specs.Span.{bytes, pair_at, pairs}
use Rattle.spans.specs.Reach.{last_of, reach}
use Rattle.jobindex.specs.Index.{path_at}
use Rattle.model.specs.Records.{Model}
use Rattle.model.specs.Names.{Named, load_upf, set_scope, other, unknown, command_named, names}
use Rattle.model.specs.Numbers.{named_in, named_by}
use Rattle.model.specs.Within.{Counted, lists_by, entries_of, total}
use Rattle.read.specs.Reading.{Reading, done, refused, Line, line_of, acts_by, afterwards}
use Rattle.store.specs.declared.state.State.{State}
use Rattle.scopes.specs.declared.go.Out.{Out}
use Rattle.scopes.specs.declared.go.Stop.TheVariants as stop
use Rattle.scopes.specs.Stops.{tag_of}
use Rattle.held.specs.Held.{mem_of, model_at, counted_of, log_of, Held, Worded, Comes, Ran}
use Rattle.held.specs.Laws.{with_entries, entries_held, entries_model, lent_same}
use Rattle.loads.specs.Steps.{line_at, counted_on, step_from, lists_fit, counted_out, acted, load_at, files_in, command_reads, Doing}
use Rattle.loads.specs.Scoped.{line_is_lem}

-- ---- answers
comes_as : (files area nums log₀ log : List ℕ) (r : Out) (d d' : Reading) → d ≡ d' → Comes files area nums log₀ log r d → Comes files area nums log₀ log r d'
comes_as files area nums log₀ log r d d' e v = rw e at v

pub ran_as : (files area₀ area nums₀ nums log₁ log : List ℕ) (s u : State) (r : Out) (D E : Bytes → Reading) → u.fill ≡ s.fill → ((text : Bytes) → D text ≡ E text)
    → Ran files area₀ area nums₀ nums log₁ log u r D → Ran files area₀ area nums₀ nums log₁ log s r E
ran_as files area₀ area nums₀ nums log₁ log s u r D E f e v =
    let end : u.fill.end ≡ s.fill.end = ap (λ x. x.end) f in
    let at : u.fill.log ≡ s.fill.log = ap (λ x. x.log) f in
    record {
      held = v.held;
      more = λ z. omega (arith, v.more z, end);
      lent = rw end at v.lent;
      reads = λ log₀ text g. comes_as files area nums log₀ log r (D text) (E text) (e text) (v.reads log₀ text (rw at g));
    }

-- a refusal
pub comes_refused : (files area nums log₀ log : List ℕ) (r : Out) (d : Reading) → (tag_of r.stop ≡ 0 → ⊥) → d ≡ refused (tag_of r.stop) r.state.count.commands → Comes files area nums log₀ log r d
comes_refused files area nums log₀ log r d z e = record { result = rw (ne_eqb (tag_of r.stop) 0 z) (sym e); logged = λ h. absurd (z h) }

pub refused_is : (files area nums log₀ log : List ℕ) (r : Out) (d : Reading) → (tag_of r.stop ≡ 0 → ⊥) → Comes files area nums log₀ log r d → d ≡ refused (tag_of r.stop) r.state.count.commands
refused_is files area nums log₀ log r d z v = sym v.result ∙ rw (ne_eqb (tag_of r.stop) 0 z)

pub done_is : (files area nums log₀ log : List ℕ) (r : Out) (d : Reading) → tag_of r.stop ≡ 0 → Comes files area nums log₀ log r d → d ≡ done (counted_of r.state) (model_at files area nums r.state (log_of d))
done_is files area nums log₀ log r d z v = sym v.result ∙ rw (eq-eqb (tag_of r.stop) 0 z)

-- ---- the limits of commands and lists come first
cut : (a b c s p r : Bool) → (a && (b && c)) ≡ false → (b && ((a && (s && (p && c))) && r)) ≡ false
cut false true c s p r e = refl
cut false false c s p r e = refl
cut true false c s p r e = refl
cut true true false true true r e = refl
cut true true false true false r e = refl
cut true true false false p r e = refl
cut true true true s p r e = absurd (no_true (sym e))

-- ---- a name that stands for no load
abbrev NoLoad : Named → Type 0
NoLoad load_upf = ⊥
NoLoad set_scope = Unit {0}
NoLoad (other c) = Unit {0}
NoLoad unknown = Unit {0}

abbrev NoLoads : List (String × Named) → Type 0
NoLoads [] = Unit {0}
NoLoads (x ∷ xs) = NoLoad x.1 × NoLoads xs

no_load_in : (xs : List (String × Named)) → NoLoads xs → (k : ℕ) → NoLoad (named_in xs k)
no_load_in [] v k = tt
no_load_in (x ∷ xs) v zero = v.0
no_load_in (x ∷ xs) v (suc k) = no_load_in xs v.1 k

no_load : (c : ℕ) → (c ≡ 2 → ⊥) → NoLoad (named_by c)
no_load zero h = tt
no_load (suc zero) h = tt
no_load (suc (suc zero)) h = absurd (h refl)
no_load (suc (suc (suc k))) h = no_load_in (drop 3 names) (tt, (tt, (tt, (tt, (tt, (tt, (tt, (tt, (tt, (tt, (tt, (tt, (tt, (tt, (tt, (tt, (tt, (tt, (tt, (tt, (tt, (tt, (tt, (tt, (tt, (tt, (tt, tt))))))))))))))))))))))))))) k

stays : (load : Bytes → Counted → Model → Reading) (path : Bytes) (c : Named) (l : Line) (m : Model) (n : Counted) (m' : Model) → NoLoad c → afterwards load path c l m n m' ≡ done n m'
stays load path load_upf l m n m' h = absurd h
stays load path set_scope l m n m' h = refl
stays load path (other c) l m n m' h = refl
stays load path unknown l m n m' h = refl

-- ---- one command
module _ (job files area nums words : List ℕ) (count n k left : ℕ) (s : State) (v : Doing job files area nums words count n k left s) where
  abbrev l : Line
  l = line_at files area words n s

  abbrev load : Bytes → Counted → Model → Reading
  load = load_at (files_in job nums count) left

  abbrev reads : Bytes → Reading
  reads text = command_reads job files area nums count words n k left s text

  -- its words are whole in the files or in the area
  mem_long : length (mem_of files area s) ≡ length files + s.fill.end
  mem_long =
      length-append files (take s.fill.end area)
      ∙ ap (λ (x : ℕ). length files + x) (length-take-le s.fill.end area (omega (arith, v.held.end, v.held.substituted, v.held.scopes, v.held.lends.area_long)))

  pub words_inside : last_of (reach (length files)) (pairs words 0 n) ≤ length (mem_of files area s)
  words_inside = omega (arith, mem_long, v.worded)

  pub words_small : length (mem_of files area s) < 2 ^ 32
  words_small = omega (arith, mem_long, v.held.end, v.held.substituted, v.held.scopes, v.held.lends.area_long, v.held.lends.small)

  module _ (c : ℕ) (ec : command_named (bytes (mem_of files area s) (pair_at words 0)) ≡ named_by c) where
    abbrev ls : List ℕ
    ls = entries_of (lists_by (named_by c) l.name l.rest)

    named_is : command_named l.name ≡ named_by c
    named_is = ap (λ (w : List Bytes). command_named (line_of w).name) (line_is_lem (mem_of files area s) words n v.named) ∙ ec

    pub reads_is : (text : Bytes) → reads text ≡ step_from load (path_at job nums k) (named_by c) l (counted_of s) (model_at files area nums s text)
    unfolding command_reads
    reads_is text = ap (λ (d : Named). step_from load (path_at job nums k) d l (counted_of s) (model_at files area nums s text)) named_is

    module _ (x : Out) (ex : x ≡ counted_out s ls) where
      -- it is past these limits
      over_by : (log : List ℕ) (b : Bool) → lists_fit s.count.commands s.count.entries ls ≡ b → x ≡ cond b (record { stop = None; state = with_entries s (s.count.entries + total ls) }) (record { stop = Some stop.PastLimit; state = s }) → (tag_of x.stop ≡ 0 → ⊥)
          → Ran files area area nums nums log log s x reads
      over_by log true q e z = absurd (z (ap (λ (o : Out). (tag_of o.stop)) e))
      over_by log false q e z =
          record {
            held = λ h. absurd (z h);
            more = λ h. absurd (z h);
            lent = lent_same s.fill.end area nums;
            reads = λ log₀ text g. comes_refused files area nums log₀ log x (reads text) z
                (reads_is text
                ∙ rw (cut (leb s.count.commands 1024) (all (λ k. leb k 64) ls) (leb (s.count.entries + total ls) 1024) _ _ _ q)
                (rw e));
          }

      pub command_over : (log : List ℕ) → (tag_of x.stop ≡ 0 → ⊥) → Ran files area area nums nums log log s x reads
      command_over log z = over_by log (lists_fit s.count.commands s.count.entries ls) refl ex z

      -- it is within them
      within_by : (b : Bool) → lists_fit s.count.commands s.count.entries ls ≡ b → x ≡ cond b (record { stop = None; state = with_entries s (s.count.entries + total ls) }) (record { stop = Some stop.PastLimit; state = s }) → tag_of x.stop ≡ 0
          → (lists_fit s.count.commands s.count.entries ls ≡ true) × (x.state ≡ with_entries s (s.count.entries + total ls))
      within_by true q e z = (q, ap (λ (o : Out). o.state) e)
      within_by false q e z = absurd (omega (arith, ap (λ (o : Out). (tag_of o.stop)) e, z))

      module _ (z : tag_of x.stop ≡ 0) where
        fits : lists_fit s.count.commands s.count.entries ls ≡ true
        fits = (within_by (lists_fit s.count.commands s.count.entries ls) refl ex z).0

        pub state_is : x.state ≡ with_entries s (s.count.entries + total ls)
        state_is = (within_by (lists_fit s.count.commands s.count.entries ls) refl ex z).1

        lists_fit_lem : all (λ k. leb k 64) ls ≡ true
        lists_fit_lem = (both (all (λ k. leb k 64) ls) (leb (s.count.entries + total ls) 1024) (both (leb s.count.commands 1024) (all (λ k. leb k 64) ls && leb (s.count.entries + total ls) 1024) fits).1).0

        entries_fit : s.count.entries + total ls ≤ 1024
        entries_fit = leb-true (s.count.entries + total ls) 1024 (both (all (λ k. leb k 64) ls) (leb (s.count.entries + total ls) 1024) (both (leb s.count.commands 1024) (all (λ k. leb k 64) ls && leb (s.count.entries + total ls) 1024) fits).1).1

        pub commands_fit : s.count.commands ≤ 1024
        commands_fit = leb-true s.count.commands 1024 (both (leb s.count.commands 1024) (all (λ k. leb k 64) ls && leb (s.count.entries + total ls) 1024) fits).0

        pub counted_held : Held files area nums 1 x.state
        counted_held = rw state_is (entries_held files area nums s (s.count.entries + total ls) entries_fit v.held)

        pub counted_worded : Worded files words n x.state
        counted_worded = rw state_is v.worded

        pub counted_few : x.state.count.commands ≤ 1024
        counted_few = rw state_is commands_fit

        pub counted_named : command_named (line_at files area words n x.state).name ≡ named_by c
        counted_named = rw state_is named_is

        -- one that loads nothing
        acts : (c ≡ 2 → ⊥) → (text : Bytes)
            → acted (named_by c) (line_at files area words n x.state) (counted_of x.state) (model_at files area nums x.state text) ≡ reads text
        acts h text =
            rw (state_is, entries_model files area nums s (s.count.entries + total ls) text)
            (sym (reads_is text ∙ rw (lists_fit_lem, stays load (path_at job nums k) (named_by c) l (model_at files area nums s text) (counted_on (named_by c) l (counted_of s) (acts_by (named_by c) (model_at files area nums s text) l)) (acts_by (named_by c) (model_at files area nums s text) l) (no_load c h))))

        pub command_plain : (c ≡ 2 → ⊥) → (area' nums' log log' : List ℕ) (r : Out)
            → Ran files area area' nums nums' log log' x.state r (λ text. acted (named_by c) (line_at files area words n x.state) (counted_of x.state) (model_at files area nums x.state text))
            → Ran files area area' nums nums' log log' s r reads
        command_plain h area' nums' log log' r g =
            ran_as files area area' nums nums' log log' s x.state r (λ text. acted (named_by c) (line_at files area words n x.state) (counted_of x.state) (model_at files area nums x.state text)) reads
            (ap (λ (u : State). u.fill) state_is) (acts h) g
