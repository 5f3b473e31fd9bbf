-- Laws: a command from what its parts come to: a load, a line of the log, another scope, a deed. Assumes nothing.
use Rattle.std.specs.Prelude.{Option, Some, None, Result, Ok, Err}
use Prim.Native.Nat.{ℕ, ◌+◌, ◌-◌, ◌≤◌, ◌<◌}
use native.Mathlib.Omega.{arith}
use mathlib.Core.Path.{◌≡◌, refl, sym, ap, ◌∙◌}
use mathlib.Core.Bool.{Bool, true, false, cond}
use mathlib.Core.List.{List}
use lib.Dec.{eqb}
use lib.ListN.{length, take, drop}
use lib.Seq.{length-take-le}
use borrow.Author.Tests.{le-leb, lt-leb}
use Rattle.text.specs.Ascii.{Bytes}
use Rattle.text.specs.Scan.{all}
use Rattle.out.specs.Emit.{◌▸◌, emit}
use Rattle.spans.specs.Span.{bytes, pair_at}
use Rattle.spans.specs.declared.span.Span.{Span}
use Rattle.tcl.specs.Arguments.{name_of}
use Rattle.tcl.specs.Commands.{commands}
use Rattle.args.specs.View.{words_from}
use Rattle.model.specs.Names.{command_named}
use Rattle.model.specs.Numbers.{named_by}
use Rattle.model.specs.Scope.{moved}
use Rattle.model.specs.Within.{entries_of, lists_by, total}
use Rattle.read.specs.Reading.{Reading, Line}
use Rattle.store.specs.Added.{with_head}
use Rattle.store.specs.Strings.{string}
use Rattle.store.specs.declared.state.Head.{Head}
use Rattle.store.specs.declared.state.State.{State}
use Rattle.made.specs.declared.Deed.{Deed}
use Rattle.made.specs.declared.Brief.{Brief}
use Rattle.made.specs.Made.{brief_of, done_by, Fits}
use Rattle.scopes.specs.declared.go.Out.{Out}
use Rattle.scopes.specs.declared.go.Stop.TheVariants as stop
use Rattle.scopes.specs.Stops.{tag_of}
use Rattle.scopes.specs.declared.go.Place.{Place}
use Rattle.scopes.specs.declared.go.Stop.{Stop}
use Rattle.scopes.specs.Moves.{scope_fits, moved_to, Moves}
use Rattle.scopes.specs.Moves as Scopes
use Rattle.held.specs.Held.{mem_of, model_at, counted_of, Ran}
use Rattle.held.specs.Laws.{with_entries}
use Rattle.loads.specs.declared.Load.{Load}
use Rattle.loads.specs.Loads.{opened, file_of, Loading, Loaded, Restores, head_back}
use Rattle.loads.specs.Behind.{restores_by}
use Rattle.loads.specs.Steps.{line_at, counted_out, acted, command_reads, file_reads, Doing, Opening}
use Rattle.plain.specs.Acts.{Acting, Acts}
use Rattle.plain.specs.Asks.{Lists, Asks}
use Rattle.plain.specs.Counted.{counted_in, out_within, out_past}
use Rattle.plain.specs.Puts.{saying, log_set, puts_ran}
use Rattle.plain.specs.Stores.{out_of}
use Rattle.reader.specs.Command.{command_over, command_plain, counted_held, counted_worded, counted_few, counted_named, words_inside, words_small}
use Rattle.reader.specs.Turn.{Going}
use Rattle.reader.specs.Load.{load_before, load_refused, load_deep, load_opening, load_failed, load_done}
use Rattle.deeds.specs.Deeds.{refused_by, rows_by, warnings_by, record_by, counted_by, refused_is, taken_tag, taken_is, fits_counted}
use Rattle.files.specs.Loads.{Loads}
use Rattle.files.proofs.Moved.{scope_ran}

-- ---- a load has no value that is read as a list
load_past : (s : State) (l : Line) → 1024 < s.count.commands → ◌≡◌ {A = Out} (record { stop = Some stop.PastLimit; state = s }) (counted_out s (entries_of (lists_by (named_by 2) l.name l.rest)))
load_past s l h = rw (lt-leb s.count.commands 1024 h)

load_within : (s : State) (l : Line) → s.count.commands ≤ 1024 → s.count.entries ≤ 1024 → ◌≡◌ {A = Out} (record { stop = None; state = s }) (counted_out s (entries_of (lists_by (named_by 2) l.name l.rest)))
unfolding all total
load_within s l h g = let e : s.count.entries + 0 ≡ s.count.entries = omega arith in rw (e, le-leb s.count.commands 1024 h, le-leb s.count.entries 1024 g)

module _ (job files area nums words : List ℕ) (count n k left : ℕ) (s : State) (v : Loads job files area nums words count n k left s) where
  abbrev load_reads : Bytes → Reading
  load_reads = command_reads job files area nums count words n k left s

  -- there are too many commands
  pub load_over : 1024 < s.count.commands → (log : List ℕ) → Ran files area area nums nums log log s (record { stop = Some stop.PastLimit; state = s }) load_reads
  load_over h log = command_over job files area nums words count n k left s v.doing 2 v.is (record { stop = Some stop.PastLimit; state = s }) (load_past s (line_at files area words n s) h) log (λ z. absurd (omega (arith, z)))

  module _ (h : s.count.commands ≤ 1024) where
    ex : ◌≡◌ {A = Out} (record { stop = None; state = s }) (counted_out s (entries_of (lists_by (named_by 2) (line_at files area words n s).name (line_at files area words n s).rest)))
    ex = load_within s (line_at files area words n s) h v.doing.held.entries

    pub load_asks : Loading job files area nums words count n k left s
    load_asks = load_before job files area nums words count n k left s v.doing 2 v.is (record { stop = None; state = s }) ex refl refl

    module _ (area' : List ℕ) (b : Out) (m : ℕ) (w : Loaded job files area area' nums count words n k left s b m) where
      pub not_opened : (log : List ℕ) → (tag_of b.stop ≡ 0 → ⊥) → Ran files area area' nums nums log log s b load_reads
      not_opened = load_refused job files area nums words count n k left s v.doing 2 v.is (record { stop = None; state = s }) ex refl refl area' b m w

      module _ (z : tag_of b.stop ≡ 0) where
        pub deep : 1 ≤ left
        deep = load_deep job files area nums words count n k left s v.doing 2 v.is (record { stop = None; state = s }) ex refl refl area' b m w z

        pub opening : Opening job files area' nums count m (left - 1) b.state
        opening = load_opening job files area nums words count n k left s v.doing 2 v.is (record { stop = None; state = s }) ex refl refl area' b m w z

        module _ (area'' nums'' log log'' : List ℕ) (r : Out) (g : Ran files area' area'' nums nums'' log log'' b.state r (file_reads job files area' nums count m (left - 1) b.state)) where
          pub failed : (tag_of r.stop ≡ 0 → ⊥) → Ran files area area'' nums nums'' log log'' s r load_reads
          failed = load_failed job files area nums words count n k left s v.doing 2 v.is (record { stop = None; state = s }) ex refl refl area' b m w z area'' nums'' log log'' r g

          pub behind : tag_of r.stop ≡ 0 → (u : State) → Restores s r.state u → Ran files area area'' nums nums'' log log'' s (record { stop = None; state = u }) load_reads
          behind = load_done job files area nums words count n k left s v.doing 2 v.is (record { stop = None; state = s }) ex refl refl area' b m w z area'' nums'' log log'' r g

-- a load by what it is found to be
pub loaded_as : (job files area area' nums words : List ℕ) (count n k left : ℕ) (s : State) (b d : Result Load Stop) → b ≡ d → Loaded job files area area' nums count words n k left s (opened s b) (file_of b) → Loaded job files area area' nums count words n k left s (opened s d) (file_of d)
loaded_as job files area area' nums words count n k left s b d e w = rw e at w

-- so many rows and warnings
abbrev pub with_counts : State → ℕ → ℕ → State
with_counts s a b =
    record {
      head = s.head;
      count = s.count;
      fill = record { end = s.fill.end; log = s.fill.log; rows = a; words = s.fill.words; warnings = b };
      domains = s.domains;
      nets = s.nets;
      ports = s.ports;
      switches = s.switches;
      isolations = s.isolations;
      retentions = s.retentions;
      shifters = s.shifters;
      portstates = s.portstates;
      tables = s.tables;
      variables = s.variables;
    }

-- what is answered is what is tested
pub told : (a b c : Bool) → a ≡ b → a ≡ c → b ≡ c
told a b c p q = sym p ∙ q

-- ---- the head is put by itself
abbrev pub with_place : State → Head → Place → State
with_place s h p =
    record {
      head = h;
      count = record { commands = s.count.commands; substituted = s.count.substituted; scopes = p.scopes; entries = s.count.entries };
      fill = record { end = p.end; log = s.fill.log; rows = s.fill.rows; words = s.fill.words; warnings = s.fill.warnings };
      domains = s.domains;
      nets = s.nets;
      ports = s.ports;
      switches = s.switches;
      isolations = s.isolations;
      retentions = s.retentions;
      shifters = s.shifters;
      portstates = s.portstates;
      tables = s.tables;
      variables = s.variables;
    }

module _ (s : State) (h : Head) (q : Place) (e : h ≡ record { scope = q.scope; top = s.head.top }) where
  placed : with_place s h q ≡ moved_to s q.scope q.scopes q.end
  placed = ap (λ (g : Head). with_place s g q) e

  pub placed_ran : (files area area' nums nums' log log' : List ℕ) (D : Bytes → Reading) → Ran files area area' nums nums' log log' s (Scopes.out_of s (Ok q)) D
      → Ran files area area' nums nums' log log' s (record { stop = None; state = with_place s h q }) D
  placed_ran files area area' nums nums' log log' D g = ran_to (with_place s h q) (moved_to s q.scope q.scopes q.end) placed g
    where
      ran_to : (u v : State) → u ≡ v → Ran files area area' nums nums' log log' s (record { stop = None; state = v }) D → Ran files area area' nums nums' log log' s (record { stop = None; state = u }) D
      ran_to u v i x = rw i x

  pub placed_opening : (job files area nums : List ℕ) (count m left : ℕ) → Opening job files area nums count m left (Scopes.out_of s (Ok q)).state → Opening job files area nums count m left (with_place s h q)
  placed_opening job files area nums count m left g = rw placed g

  pub placed_reads : (job files area area' nums nums' log log' : List ℕ) (count m left : ℕ) (r : Out)
      → Ran files area area' nums nums' log log' (with_place s h q) r (file_reads job files area nums count m left (with_place s h q))
      → Ran files area area' nums nums' log log' (Scopes.out_of s (Ok q)).state r (file_reads job files area nums count m left (Scopes.out_of s (Ok q)).state)
  placed_reads job files area area' nums nums' log log' count m left r g = rw (← placed) g

-- behind a load
pub head_back_lem : (s u : State) (h : Head) → h ≡ head_back s.head u.head → Restores s u (with_head u h)
head_back_lem s u h e = ap (with_head u) e ∙ restores_by s u

-- ---- a command whose number is known
asks_at : (files area nums words : List ℕ) (n c k : ℕ) (s : State) → c ≡ k → Asks files area nums words n c s → Asks files area nums words n k s
asks_at files area nums words n c k s e v = rw (← e) v

module _ (files area nums words : List ℕ) (n c : ℕ) (s : State) where
  -- what it comes to, by what stood in the log
  abbrev does_at : ℕ → Bytes → Reading
  does_at k text = acted (named_by k) (line_at files area words n s) (counted_of s) (model_at files area nums s text)

  abbrev Does : List ℕ → List ℕ → Bytes → Bytes → Out → Type 0
  Does area' nums' log log' o = Ran files area area' nums nums' log log' s o (does_at c)

  -- puts
  module _ (e1 : c ≡ 1) (v : Asks files area nums words n c s) where
    pub said : (log log' : Bytes) (e : ℕ) → log' ▸ e ≡ emit (log ▸ s.fill.log) (saying (words_from (mem_of files area s) words n 1)) → Does area nums log log' (record { stop = None; state = log_set s e })
    said log log' e g = rw e1 (puts_ran files area nums words n s (asks_at files area nums words n c 1 s e1 v) log log' e g)

  -- set_scope
  module _ (e4 : c ≡ 4) (v : Asks files area nums words n c s) where
    abbrev to : Bytes
    to = moved (string (mem_of files area s) s.head.scope) (name_of (words_from (mem_of files area s) words n 1))

    pub scoped : (area' : List ℕ) (w r : Result Place Stop) (log : Bytes) → length area' ≡ length area → w ≡ r → Moves files area area' s to (Scopes.out_of s w) (scope_fits s.count.scopes to) → Does area' nums log log (Scopes.out_of s r)
    scoped area' w r log len i g = rw e4 (scope_ran files area nums words n c s v area' (Scopes.out_of s r) log len (rw i at g))

  pub acting : Asks files area nums words n c s → (b : Brief) → b ≡ brief_of s → (c ≡ 1 → ⊥) → (c ≡ 4 → ⊥)
      → Acting files (take s.fill.end area) nums words n c s.fill.rows s.fill.warnings b s.domains s.nets s.isolations s.tables
  acting v b e no_puts no_scope =
      record {
        state = s;
        whole = area;
        told = record { brief = sym e; domains = refl; nets = refl; isolations = refl; tables = refl };
        rows = refl;
        warnings = refl;
        front = refl;
        asks = v;
        no_puts = no_puts;
        no_scope = no_scope;
      }

  pub acts_of : (v : Asks files area nums words n c s) (b : Brief) (e : b ≡ brief_of s) (no_puts : c ≡ 1 → ⊥) (no_scope : c ≡ 4 → ⊥) (nums' : List ℕ) (d : Deed)
      → ((x : Acting files (take s.fill.end area) nums words n c s.fill.rows s.fill.warnings b s.domains s.nets s.isolations s.tables) → Acts files x.whole nums nums' words n c x.state d)
      → Acts files area nums nums' words n c s d
  unfolding acting
  acts_of v b e no_puts no_scope nums' d f = f (acting v b e no_puts no_scope)

  -- a deed
  module _ (nums' : List ℕ) (d : Deed) (g : Acts files area nums nums' words n c s d) (log : Bytes) where
    ran_as : (o : Out) → out_of (done_by s d) ≡ o → Does area nums' log log o
    ran_as o e = rw e at (g.ran log)

    pub deed_refused : refused_by s.fill.warnings d ≡ true → Does area nums' log log (record { stop = Some stop.PastLimit; state = s })
    deed_refused h = ran_as (record { stop = Some stop.PastLimit; state = s }) (ap out_of (refused_is s d h))

    module _ (h : refused_by s.fill.warnings d ≡ false) (a b : ℕ) (ea : a ≡ rows_by d s.fill.rows) (eb : b ≡ warnings_by d s.fill.warnings) where
      counts_are : with_counts s a b ≡ counted_by s d
      counts_are = λ i. with_counts s (ea i) (eb i)

      done_as : (u : State) → record_by (counted_by s d) d ≡ u → out_of (done_by s d) ≡ record { stop = None; state = u }
      done_as u e = λ i. record { stop = cond (eqb (taken_tag s d h i) 0) None (Some stop.PastLimit); state = (taken_is s d h ∙ e) i }

      pub deed_fits : Fits (with_counts s a b) d
      deed_fits = rw counts_are (fits_counted s d g.fits)

      pub deed_done : (u : State) → u ≡ record_by (with_counts s a b) d → Does area nums' log log (record { stop = None; state = u })
      deed_done u e = ran_as _ (done_as u (ap (λ (x : State). record_by x d) (sym counts_are) ∙ sym e))

-- what a deed leaves: its place is in its table, there are fewer commands left, and the state with its record goes on
pub record Did (job files area₀ nums₀ log₁ : List ℕ) (count k left : ℕ) (s : State) (base len at : ℕ) (area nums log words : List ℕ) (next : ℕ) (v : State) (d : Deed) : Type 0 where
  pub fits : Fits v d
  pub less : length (commands (drop next (take len (drop base files)))) < length (commands (drop at (take len (drop base files))))
  pub again : (u : State) → u ≡ record_by v d → Going job files area₀ nums₀ log₁ count k left s base len area nums log words next u

-- ---- the number of a command
pub named_at : (mem : Bytes) (x y : Span) (c d : ℕ) → x ≡ y → command_named (bytes mem x) ≡ named_by c → c ≡ d → command_named (bytes mem y) ≡ named_by d
named_at mem x y c d e h f = ap (λ (w : Span). command_named (bytes mem w)) (sym e) ∙ h ∙ ap named_by f

-- ---- a command that loads nothing
module _ (job files area nums words : List ℕ) (count n k left : ℕ) (s : State) (v : Doing job files area nums words count n k left s) where
  pub end_in_lem : s.fill.end ≤ length area
  end_in_lem = omega (arith, v.held.end, v.held.substituted, v.held.scopes, v.held.lends.area_long)

  pub front_long : s.fill.end ≡ length (take s.fill.end area)
  front_long = sym (length-take-le s.fill.end area end_in_lem)

  pub lists : Lists files (take s.fill.end area) words n s.count.entries
  lists = record { whole = record { line = words_inside job files area nums words count n k left s v; small = words_small job files area nums words count n k left s v }; named = v.named; few = v.held.entries }

  module _ (c : ℕ) (ec : command_named (bytes (mem_of files area s) (pair_at words 0)) ≡ named_by c) (r : Option ℕ)
      (er : r ≡ counted_in s.count.commands s.count.entries (entries_of (lists_by (named_by c) (line_at files area words n s).name (line_at files area words n s).rest))) where
    abbrev ls : List ℕ
    ls = entries_of (lists_by (named_by c) (line_at files area words n s).name (line_at files area words n s).rest)

    pub past : r ≡ None → (log : List ℕ) → Ran files area area nums nums log log s (record { stop = Some stop.PastLimit; state = s }) (command_reads job files area nums count words n k left s)
    past q log = command_over job files area nums words count n k left s v c ec (record { stop = Some stop.PastLimit; state = s }) (out_past s ls r er q) log (λ z. absurd (omega (arith, z)))

    module _ (t : ℕ) (q : r ≡ Some t) (no : c ≡ 2 → ⊥) where
      pub asks : c ≤ 30 → Asks files area nums words n c (with_entries s t)
      asks h =
          record {
            held = counted_held job files area nums words count n k left s v c ec (record { stop = None; state = with_entries s t }) (out_within s ls r er t q) refl;
            worded = counted_worded job files area nums words count n k left s v c ec (record { stop = None; state = with_entries s t }) (out_within s ls r er t q) refl;
            named = v.named;
            few = v.few;
            counted = counted_few job files area nums words count n k left s v c ec (record { stop = None; state = with_entries s t }) (out_within s ls r er t q) refl;
            known = h;
            no_load = no;
            is = counted_named job files area nums words count n k left s v c ec (record { stop = None; state = with_entries s t }) (out_within s ls r er t q) refl;
          }

      pub does : (area' nums' log log' : List ℕ) (d : Out)
          → Ran files area area' nums nums' log log' (with_entries s t) d (λ text. acted (named_by c) (line_at files area words n (with_entries s t)) (counted_of (with_entries s t)) (model_at files area nums (with_entries s t) text))
          → Ran files area area' nums nums' log log' s d (command_reads job files area nums count words n k left s)
      does = command_plain job files area nums words count n k left s v c ec (record { stop = None; state = with_entries s t }) (out_within s ls r er t q) refl no
