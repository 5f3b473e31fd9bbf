-- The reading goes on: what is left of the job is read to what the whole job is read to. The loop's invariant, and its turns.
-- Assumes nothing.
use mathlib.Core.Path.{◌≡◌, refl, ap, ◌∙◌, sym}
use Prim.Native.Nat.{ℕ, suc, ◌+◌, ◌-◌, ◌<◌, ◌≤◌}
use native.Mathlib.Numerals.{add-one}
use native.Mathlib.Omega.{arith}
use mathlib.Core.Bool.{Bool, true, false, cond}
use mathlib.Core.List.{List, []}
use lib.ListN.{length, take, drop, length-drop, drop_of_length-le}
use lib.Dec.{ltb, eqb}
use lib.Seq.{drop-drop}
use borrow.Author.Tests.{lt-ltb, le-ltb, ltb-true, ltb-false, eqb-true, eqb-false}
use Rattle.text.specs.Ascii.{Bytes}
use Rattle.text.specs.Compare.{same}
use Rattle.text.specs.Sames.{differ, same_refl}
use Rattle.place.specs.declared.Place.{Place}
use Rattle.std.specs.Prelude.{Option, None, Some, Result, Ok, Err}
use Rattle.place.specs.declared.Line.{Line}
use Rattle.place.specs.Cut.{end_of, cut_at, moved_on, In}
use Rattle.joblines.specs.Job.{Job, no_job}
use Rattle.joblines.specs.Lines.{due_top, due_override, due_start, due_file, due_bytes, due_more, due_style, due_ports, due_decls, due_insts, due_nothing, read_line}
use Rattle.joblines.specs.Lines as Lines
use Rattle.joblines.specs.Parse.{accepted, refused, is_nothing, line_size, has_line, first_line, behind_line, carry_on, lines}
use Rattle.jobindex.specs.declared.Header.{Header}
use Rattle.jobindex.specs.declared.Open.{Open}
use Rattle.jobindex.specs.Index.{index_size, job_of, rows}
use Rattle.jobsteps.specs.declared.Due.{Due}
use Rattle.jobsteps.specs.declared.Due.TheVariants as due
use Rattle.jobsteps.specs.declared.Step.{Step}
use Rattle.joblines.specs.declared.Refusal.{Refusal}
use Rattle.jobsteps.specs.State.{due_of, job_now, line_of, IsLine, Stands, Asked, Stepped}
use Rattle.fields.specs.declared.Style.TheVariants.{Ansi}
use Rattle.job.specs.declared.Refused.{Refused}
use Rattle.job.specs.Reader.{refused_at, read_of, Bounded, LinesRead}

-- ---- one line of what is left
-- where there is a line, it is read; also where nothing is due, which refuses it
line_read : (d : Lines.Due) (k n : ℕ) (j : Job) (s : Bytes) → has_line s ≡ true → lines (suc k) n d j s ≡ carry_on n (read_line d j (first_line s) (behind_line s)) (lines k (n + 1))
unfolding lines read_line
line_read due_top k n j s h = rw h
line_read due_override k n j s h = rw h
line_read due_start k n j s h = rw h
line_read due_file k n j s h = rw h
line_read (due_bytes p) k n j s h = rw h
line_read due_more k n j s h = rw h
line_read (due_style p) k n j s h = rw h
line_read due_ports k n j s h = rw h
line_read due_decls k n j s h = rw h
line_read due_insts k n j s h = rw h
line_read due_nothing k n j s h = rw (← differ s [] (λ e. omega (arith, ltb-true (line_size s) (length s) h)))

-- where there is none, the job ends or a line is missing
line_missing : (d : Lines.Due) (k n : ℕ) (j : Job) (s : Bytes) → has_line s ≡ false → lines (suc k) n d j s ≡ cond (is_nothing d) (cond (same s []) (accepted j) (refused 4 (n + 1))) (refused 4 (n + 1))
unfolding lines
line_missing d k n j s h = rw h

-- ---- the place, as `cut_line` leaves it
module _ (job : Bytes) (p n : ℕ) where
  abbrev at : Place
  at = record { at = p; line = n }

  module _ (c : Option Line) (ec : c ≡ cut_at job at) where
    cut_line : (x : Line) → c ≡ Some x → (x.from ≡ p) × ((x.end ≡ end_of job p) × (end_of job p < length job))
    unfolding cut_at
    cut_line x e = go (ltb (end_of job p) (length job)) refl (sym e ∙ ec)
      where
        go : (q : Bool) → ltb (end_of job p) (length job) ≡ q → Some x ≡ cond q (Some (record { from = p; end = end_of job p })) None → (x.from ≡ p) × ((x.end ≡ end_of job p) × (end_of job p < length job))
        go true t h = (cc, (cc, ltb-true (end_of job p) (length job) t))
        go false t h = absurd (let z : ◌≡◌ {A = ℕ} 0 1 = cc in omega arith)

    cut_missing : c ≡ None → length job ≤ end_of job p
    unfolding cut_at
    cut_missing e = go (ltb (end_of job p) (length job)) refl (sym e ∙ ec)
      where
        go : (q : Bool) → ltb (end_of job p) (length job) ≡ q → ◌≡◌ {A = Option Line} None (cond q (Some (record { from = p; end = end_of job p })) None) → length job ≤ end_of job p
        go true t h = absurd (let z : ◌≡◌ {A = ℕ} 0 1 = cc in omega arith)
        go false t h = ltb-false (end_of job p) (length job) t

  moved_line : (q : Place) → q ≡ moved_on job at → q.line ≡ n + 1
  unfolding moved_on
  moved_line q e = rw e

-- ---- the invariant
pub record Going (job index₀ index : List ℕ) (p n : ℕ) (d : Due) (head : Header) (o : Open) : Type 0 where
  pub small : length job ≤ 65536
  pub stands : Stands job index d head o p
  pub here : p ≤ length job
  pub counted : n ≤ p
  pub long : length index ≡ length index₀
  pub room : index_size ≤ length index
  pub kept : drop index_size index ≡ drop index_size index₀
  pub fuel : ℕ
  pub enough : length job ≤ fuel + p
  pub keeps : lines (length job + 1) 0 due_top no_job job ≡ lines (suc fuel) n (due_of job d) (job_now job index d head o) (drop p job)

module _ (job index₀ index : List ℕ) (p n : ℕ) (d : Due) (head : Header) (o : Open) (g : Going job index₀ index p n d head o) where
  pub going_in : In job (record { at = p; line = n })
  going_in = record { inside = g.here; counted = omega (arith, g.counted, g.here, g.small) }

  module _ (q : Place) (eq : q ≡ moved_on job (record { at = p; line = n })) (c : Option Line) (ec : c ≡ cut_at job (record { at = p; line = n })) where
    -- ---- there is no further line
    module _ (e : c ≡ None) where
      none_left : has_line (drop p job) ≡ false
      none_left = le-ltb (line_size (drop p job)) (length (drop p job)) (omega (arith, cut_missing job p n c ec e, length-drop p job, g.here))

      at_end_lem : same (drop p job) [] ≡ eqb p (length job)
      at_end_lem = go (eqb p (length job)) refl
        where
          go : (b : Bool) → eqb p (length job) ≡ b → same (drop p job) [] ≡ b
          go true t = rw (drop_of_length-le job {i = p} (omega (arith, eqb-true p (length job) t))) (same_refl [])
          go false t = sym (differ (drop p job) [] (λ z. omega (arith, eqb-false p (length job) t, length-drop p job, z, g.here)))

      -- nothing was due, at the job's end, or a line is missing
      ends_so : (d : Due) → Stands job index d head o p → (b : Bool) (r : Result Header Refused) → n + 1 ≤ 65537 → r ≡ cond (is_nothing (due_of [] d)) (cond b (Ok head) (Err (refused_at (n + 1)))) (Err (refused_at (n + 1)))
          → (read_of job index r ≡ cond (is_nothing (due_of job d)) (cond b (accepted (job_now job index d head o)) (refused 4 (n + 1))) (refused 4 (n + 1))) × Bounded r
      ends_so due.Top s b r f er = (rw er, rw er f)
      ends_so due.Override s b r f er = (rw er, rw er f)
      ends_so due.Start s b r f er = (rw er, rw er f)
      ends_so due.File s b r f er = (rw er, rw er f)
      ends_so (due.Bytes a l) s b r f er = (rw er, rw er f)
      ends_so due.More s b r f er = (rw er, rw er f)
      ends_so (due.Style a l) s b r f er = (rw er, rw er f)
      ends_so due.Ports s b r f er = (rw er, rw er f)
      ends_so due.Decls s b r f er = (rw er, rw er f)
      ends_so due.Insts s b r f er = (rw er, rw er f)
      ends_so due.Nothing s true r f er = (rw er, rw er (s.files, s.modules))
      ends_so due.Nothing s false r f er = (rw er, rw er f)

      pub going_ends : (r : Result Header Refused) → r ≡ cond (is_nothing (due_of [] d)) (cond (eqb p (length job)) (Ok head) (Err (refused_at q.line))) (Err (refused_at q.line)) → LinesRead job index₀ index r
      going_ends r er =
          let z = ends_so d g.stands (eqb p (length job)) r (omega (arith, g.counted, g.here, g.small)) (rw (moved_line job p n q eq) at er) in
          record {
            says = z.0 ∙ sym (g.keeps ∙ (line_missing (due_of job d) g.fuel n (job_now job index d head o) (drop p job) none_left ∙ rw at_end_lem));
            counts = z.1;
            long = g.long;
            kept = g.kept;
          }

    -- ---- there is one
    module _ (x : Line) (e : c ≡ Some x) where
      abbrev from : ℕ
      from = x.from

      abbrev end : ℕ
      end = x.end

      is_line : IsLine job from end
      is_line =
          let z = cut_line job p n c ec x e in
          record { ends = rw z.0 z.1.0; inside = omega (arith, z); small = g.small }

      pub going_asks : Asked job index from end (Stands job index d head o from)
      going_asks = record { line = is_line; stands = rw (cut_line job p n c ec x e).0 g.stands; room = g.room }

      left_is : lines (length job + 1) 0 due_top no_job job ≡ carry_on n (read_line (due_of job d) (job_now job index d head o) (line_of job from end) (drop (end + 1) job)) (lines g.fuel (n + 1))
      left_is =
          let z = cut_line job p n c ec x e in
          let s : line_size (drop p job) ≡ end - from = omega (arith, z) in
          let t : p + (end - from + 1) ≡ end + 1 = omega (arith, z) in
          let f : take (end - from) (drop p job) ≡ line_of job from end = rw z.0 in
          g.keeps
          ∙ (line_read (due_of job d) g.fuel n (job_now job index d head o) (drop p job) (lt-ltb (line_size (drop p job)) (length (drop p job)) (omega (arith, z, length-drop p job)))
          ∙ rw (s, drop-drop (end - from + 1) p job, t, f))

      module _ (index' : List ℕ) (r : Result Step Refusal) (s : Stepped job index index' from (read_line (due_of job d) (job_now job index d head o) (line_of job from end) (drop (end + 1) job)) r) where
        pub going_refused : (y : Refusal) → r ≡ Err y → LinesRead job index₀ index' (Err (record { refusal = y; line = q.line }))
        going_refused y er =
            record {
              says = rw (moved_line job p n q eq) (sym (left_is ∙ rw (← s.says, er)));
              counts = omega (arith, moved_line job p n q eq, g.counted, g.here, g.small);
              long = s.long ∙ g.long;
              kept = s.kept ∙ g.kept;
            }

        module _ (t : Step) (er : r ≡ Ok t) where
          abbrev a : ℕ
          a = t.at

          abbrev d' : Due
          d' = t.due

          abbrev head' : Header
          head' = t.head

          abbrev o' : Open
          o' = t.opened

          past : (from < a) × Stands job index' d' head' o' a
          past = rw er at s.stands

          at_in : (job index : List ℕ) (d : Due) (head : Header) (o : Open) (a : ℕ) → Stands job index d head o a → a ≤ length job
          at_in job index due.Top head o a s = s.here
          at_in job index due.Override head o a s = s.here
          at_in job index due.Start head o a s = s.here
          at_in job index due.File head o a s = s.here
          at_in job index (due.Bytes b l) head o a s = s.out.here
          at_in job index due.More head o a s = s.here
          at_in job index (due.Style b l) head o a s = s.out.here
          at_in job index due.Ports head o a s = s.within.here
          at_in job index due.Decls head o a s = s.within.here
          at_in job index due.Insts head o a s = s.within.here
          at_in job index due.Nothing head o a s = s.here

          pub going_less : length job - a < length job - p
          going_less = omega (arith, past.0, at_in job index' d' head' o' a past.1, cut_line job p n c ec x e)

          fuel_more : g.fuel ≡ suc (g.fuel - 1)
          fuel_more = omega (arith, g.enough, cut_line job p n c ec x e)

          pub going_on : Going job index₀ index' a q.line d' head' o'
          going_on =
              record {
                small = g.small;
                stands = past.1;
                here = at_in job index' d' head' o' a past.1;
                counted = omega (arith, g.counted, past.0, moved_line job p n q eq, cut_line job p n c ec x e);
                long = s.long ∙ g.long;
                room = omega (arith, g.room, s.long);
                kept = s.kept ∙ g.kept;
                fuel = g.fuel - 1;
                enough = omega (arith, g.enough, past.0, fuel_more, cut_line job p n c ec x e);
                keeps = left_is ∙ rw (← s.says, er, moved_line job p n q eq) (ap (λ k. lines k (n + 1) (due_of job d') (job_now job index' d' head' o') (drop a job)) fuel_more);
              }

-- ---- before the first line
pub going_start : (job index : List ℕ) (head : Header) (o : Open) → length job ≤ 65536 → index_size ≤ length index
    → job_of job index head ≡ no_job → head.files ≡ 0 → head.modules ≡ 0 → Going job index index 0 0 due.Top head o
going_start job index head o small room e f m =
    record {
      small = small;
      stands = record { here = omega arith; files = omega arith; modules = omega arith };
      here = omega arith;
      counted = omega arith;
      long = refl;
      room = room;
      kept = refl;
      fuel = length job;
      enough = omega arith;
      keeps = rw (add-one (length job), e);
    }

abbrev no_head : Header
no_head =
    record {
      top = record { at = 0; len = 0 };
      over = record { at = 0; len = 0 };
      start = record { at = 0; len = 0 };
      files = 0;
      modules = 0;
      startfile = 0;
      topmodule = 0;
    }

abbrev none_open : Open
none_open = record { name = record { at = 0; len = 0 }; style = Ansi; ports = 0; decls = 0; insts = 0; end = 0; nports = 0; ndecls = 0; ninsts = 0; nconns = 0 }

pub going_first : (job index : List ℕ) → (length job ≤ 65536) × (index_size ≤ length index) → Going job index index 0 0 due.Top no_head none_open
unfolding rows
going_first job index h = going_start job index no_head none_open h.0 h.1 refl refl refl
