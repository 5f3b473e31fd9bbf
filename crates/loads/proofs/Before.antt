-- Laws: a load before it reads its file, and behind it. Assumes nothing.
use Prim.Native.Nat.{ℕ, zero, suc, ◌+◌, ◌-◌, ◌≤◌, ◌<◌}
use native.Mathlib.Omega.{arith}
use native.Mathlib.Nat.{add-zero}
use mathlib.Core.Path.{◌≡◌, refl, sym, ap, ◌∙◌}
use mathlib.Core.Bool.{Bool, true, false, cond}
use mathlib.Core.List.{List, ◌++◌}
use Rattle.std.specs.Prelude.{Option, None, Some, Result, Ok, Err, IsErrAnd}
use lib.Dec.{leb}
use lib.ListN.{length, take, drop}
use lib.Seq.{length-take-le}
use Rattle.std.proofs.lemmas.Result.{err_from_is_err_and}
use borrow.Author.Rules.{rules}
use borrow.Author.Tests.{leb-true}
use Rattle.text.specs.Ascii.{Bytes, ascii}
use Rattle.text.specs.Scan.{all}
use Rattle.text.specs.Sames.{both}
use Rattle.spans.specs.Span.{bytes}
use Rattle.spans.specs.declared.span.Span.{Span}
use Rattle.tcl.specs.Arguments.{option_of, name_of}
use Rattle.tcl.specs.Commands.{commands}
use Rattle.args.specs.View.{words_from, Reads}
use Rattle.joblines.specs.Job.{File}
use Rattle.jobindex.specs.Index.{path_at}
use Rattle.model.specs.Records.{Model, with_scope}
use Rattle.model.specs.Scope.{entered}
use Rattle.model.specs.Names.{load_upf}
use Rattle.model.specs.Within.{Counted, total}
use Rattle.read.specs.Reading.{Reading, refused, restored, joined_path, file_named, read_body, read_file}
use Rattle.store.specs.Strings.{string}
use Rattle.store.specs.View.{model_of}
use Rattle.store.specs.declared.stored.Stored.{Stored}
use Rattle.store.specs.declared.state.Head.{Head}
use Rattle.store.specs.declared.state.State.{State}
use Rattle.scopes.specs.declared.go.Out.{Out}
use Rattle.scopes.specs.Stops.{tag_of, numbered}
use Rattle.scopes.specs.declared.go.Place.{Place}
use Rattle.scopes.specs.declared.go.Stop.{Stop}
use Rattle.scopes.specs.declared.go.Stop.TheVariants as stop
use Rattle.scopes.specs.Moves.{scope_fits, place_of as Scopes·placeOf, out_of, In, Moves, Same, Enters, Shifts, Leads}
use Rattle.scopes.specs.States.{enters_at}
use Rattle.filepaths.specs.Paths.{place_of, none_named, one_named, one_path, place_below}
use Rattle.held.specs.Held.{mem_of, model_at, counted_of, Lends, Held}
use Rattle.loads.specs.declared.Load.{Load}
use Rattle.loads.specs.Steps.{line_at, step_from, load_at, files_in, file_reads}
use Rattle.loads.specs.Loads.{head_back, opened, file_of, Asked, Loading, Loaded}
use Rattle.loads.specs.Scoped.{line_is_lem, words_grow, in_held, in_model, in_counted, in_log, still_held, scope_within, now_within, far, cond_is}

-- ---- loads
cond_true : (b : Bool) (x y : Reading) → b ≡ true → cond b x y ≡ x
cond_true b x y e = rw e

load_is : (fs : List File) (left : ℕ) (p : Bytes) (n : Counted) (m : Model) → 0 < left → load_at fs left p n m ≡ read_body (load_at fs (left - 1)) p (file_named fs p) n m
unfolding read_file
load_is fs zero p n m h = absurd (omega arith)
load_is fs (suc zero) p n m h = let q : suc zero - 1 ≡ zero = omega arith in rw q
load_is fs (suc (suc left)) p n m h = let q : suc (suc left) - 1 ≡ suc left = omega arith in rw q

module _ (job files area nums words : List ℕ) (count n k left : ℕ) (s : State) (v : Loading job files area nums words count n k left s) where
  abbrev ws : List Bytes
  ws = words_from (mem_of files area s) words n 1

  abbrev m : Bytes → Model
  m text = model_at files area nums s text

  abbrev load : Bytes → Counted → Model → Reading
  load = load_at (files_in job nums count) left

  abbrev D : Bytes → Reading
  D text = step_from load (path_at job nums k) load_upf (line_at files area words n s) (counted_of s) (m text)

  abbrev by : Bytes
  by = joined_path (path_at job nums k) (name_of ws)

  abbrev target : Bytes → Bytes
  target w = entered (string (mem_of files area s) s.head.scope) w

  abbrev counts : Bytes → Counted
  counts x = record { commands = s.count.commands; substituted = s.count.substituted; scopes = s.count.scopes + length x; entries = s.count.entries }

  scope_is_lem : (text : Bytes) → (m text).scope ≡ string (mem_of files area s) s.head.scope
  unfolding model_of
  scope_is_lem text = refl

  d_none : (text : Bytes) → option_of (ascii "-scope") ws ≡ None → D text ≡ restored (m text) (load by (counted_of s) (m text))
  unfolding all total
  d_none text e =
      rw (line_is_lem (mem_of files area s) words n v.named, e, add-zero s.count.scopes, add-zero s.count.entries)
      (cond_true _ _ _ (now_within files area nums s v.held v.counted text))

  d_some : (text w : Bytes) → option_of (ascii "-scope") ws ≡ Some w
      → D text ≡ cond (scope_fits s.count.scopes (target w)) (restored (m text) (load by (counts (target w)) (with_scope (m text) (target w)))) (refused 10 s.count.commands)
  unfolding all total
  d_some text w e =
      rw (line_is_lem (mem_of files area s) words n v.named, e, scope_is_lem text, add-zero s.count.entries)
      (cond_is _ _ _ _ (scope_within files area nums s v.held v.counted text (target w)))

  module _ (area' : List ℕ) (r : Out) (len : length area' ≡ length area) where
    lends : Lends files area' nums
    lends = record { files_short = v.held.lends.files_short; area_long = omega (arith, v.held.lends.area_long, len); small = omega (arith, v.held.lends.small, len); nums_long = v.held.lends.nums_long }

    -- the state in the load's scope
    record Went : Type 0 where
      kept : take s.fill.end area' ≡ take s.fill.end area
      back : drop 24576 area' ≡ drop 24576 area
      held : Held files area' nums 0 r.state
      more : s.fill.end ≤ r.state.fill.end
      log : r.state.fill.log ≡ s.fill.log
      commands : r.state.count.commands ≡ s.count.commands
      is : (text : Bytes) → D text ≡ restored (m text) (load by (counted_of r.state) (model_at files area' nums r.state text))

    went_same : option_of (ascii "-scope") ws ≡ None → Same area area' s r → Went
    went_same e g =
        record {
          kept = rw g.same;
          back = rw g.same;
          held = rw (g.state, g.same) (still_held files area nums s v.held v.counted);
          more = omega (arith, ap (λ (u : State). u.fill.end) g.state);
          log = ap (λ (u : State). u.fill.log) g.state;
          commands = ap (λ (u : State). u.count.commands) g.state;
          is = λ text. d_none text e ∙ rw (g.state, g.same);
        }

    went_in : (w : Bytes) → option_of (ascii "-scope") ws ≡ Some w → scope_fits s.count.scopes (target w) ≡ true → In files area area' s (target w) r → Went
    went_in w e b g =
        let f : s.count.scopes + length (target w) ≤ 8192 = leb-true (s.count.scopes + length (target w)) 8192 (both (leb (length (target w)) 512) (leb (s.count.scopes + length (target w)) 8192) b).1 in
        let h = in_held files area area' nums s v.held lends (target w) r g f v.counted in
        record {
          kept = g.kept;
          back = far area area' r.state.fill.end (omega (arith, h.end, h.substituted, h.scopes)) g.back;
          held = h;
          more = g.more;
          log = in_log files area area' nums s v.held lends (target w) r g f v.counted;
          commands = ap (λ (u : State). u.count.commands) g.state;
          is = λ text. d_some text w e ∙ rw (b, in_counted files area area' nums s v.held lends (target w) r g f v.counted, in_model files area area' nums s v.held lends (target w) r g f v.counted text);
        }

    went_by : (w : Bytes) → option_of (ascii "-scope") ws ≡ Some w → (b : Bool) → scope_fits s.count.scopes (target w) ≡ b → Moves files area area' s (target w) r b → tag_of r.stop ≡ 0 → Went
    went_by w e true q g z = went_in w e q g
    went_by w e false q g z = absurd (omega (arith, g.tag, z))

    went : (o : Option Bytes) → option_of (ascii "-scope") ws ≡ o → Enters files area area' s o r → tag_of r.stop ≡ 0 → Went
    went None e g z = went_same e g
    went (Some w) e g z = went_by w e (scope_fits s.count.scopes (target w)) refl g z

    -- the scope is past its limits
    over_by : (w : Bytes) → option_of (ascii "-scope") ws ≡ Some w → (b : Bool) → scope_fits s.count.scopes (target w) ≡ b → Moves files area area' s (target w) r b → (tag_of r.stop ≡ 0 → ⊥) → Loaded job files area area' nums count words n k left s r 0
    over_by w e true q g z = absurd (z g.tag)
    over_by w e false q g z =
        record {
          kept = rw g.same;
          back = rw g.same;
          refuses = λ h. record { is = λ text. d_some text w e ∙ rw (q, g.tag, g.state) };
          opens = λ h. absurd (z h);
        }

    over : (o : Option Bytes) → option_of (ascii "-scope") ws ≡ o → Enters files area area' s o r → (tag_of r.stop ≡ 0 → ⊥) → Loaded job files area area' nums count words n k left s r 0
    over None e g z = absurd (z g.tag)
    over (Some w) e g z = over_by w e (scope_fits s.count.scopes (target w)) refl g z

    module _ (g : Enters files area area' s (option_of (ascii "-scope") ws) r) where
      pub loaded_over : (tag_of r.stop ≡ 0 → ⊥) → Loaded job files area area' nums count words n k left s r 0
      loaded_over z = over (option_of (ascii "-scope") ws) refl g z

      module _ (z : tag_of r.stop ≡ 0) where
        gone : Went
        gone = went (option_of (ascii "-scope") ws) refl g z

        pub loaded_deep : left ≡ 0 → Loaded job files area area' nums count words n k left s (record { stop = Some stop.TooDeep; state = s }) 0
        loaded_deep e =
            record {
              kept = gone.kept;
              back = gone.back;
              refuses = λ h. record { is = λ text. gone.is text ∙ rw (e, gone.commands) };
              opens = λ h. absurd (omega (arith, h));
            }

        module _ (d : left ≡ 0 → ⊥) (named : Span) (a : Reads (mem_of files area' r.state) words n (name_of (words_from (mem_of files area' r.state) words n 1)) named)
            (f : ℕ) (ef : f ≡ place_of (files_in job nums count) (joined_path (path_at job nums k) (bytes (mem_of files area' r.state) named))) where
          deep : 0 < left
          deep = go left d
            where
              go : (k : ℕ) → (k ≡ 0 → ⊥) → 0 < k
              go zero h = absurd (h refl)
              go (suc k) h = omega arith

          same_words : words_from (mem_of files area' r.state) words n 1 ≡ ws
          same_words = words_grow files area area' words n s.fill.end r.state.fill.end v.named gone.more gone.kept v.worded

          named_is : joined_path (path_at job nums k) (bytes (mem_of files area' r.state) named) ≡ by
          named_is = ap (joined_path (path_at job nums k)) (a.is ∙ ap name_of same_words)

          place_is_lem : f ≡ place_of (files_in job nums count) by
          place_is_lem = ef ∙ ap (place_of (files_in job nums count)) named_is

          pub loaded_none : f ≡ count → Loaded job files area area' nums count words n k left s (record { stop = Some stop.NotListed; state = s }) 0
          loaded_none e =
              let none_is : (text : Bytes) → load by (counted_of r.state) (model_at files area' nums r.state text) ≡ refused 9 r.state.count.commands =
              λ text. load_is (files_in job nums count) left by (counted_of r.state) (model_at files area' nums r.state text) deep ∙ rw (none_named job nums count f by place_is_lem e) in
              record {
                kept = gone.kept;
                back = gone.back;
                refuses = λ h. record { is = λ text. gone.is text ∙ ap (restored (m text)) (none_is text) ∙ ap (refused 9) gone.commands };
                opens = λ h. absurd (omega (arith, h));
              }

          pub loaded_one : (f ≡ count → ⊥) → Loaded job files area area' nums count words n k left s (record { stop = None; state = r.state }) f
          unfolding file_reads
          loaded_one h =
              let l : f < count = omega (arith, place_below job nums count f by place_is_lem, h) in
              let one_is : (text : Bytes) → load by (counted_of r.state) (model_at files area' nums r.state text) ≡ file_reads job files area' nums count f (left - 1) r.state text =
              λ text. load_is (files_in job nums count) left by (counted_of r.state) (model_at files area' nums r.state text) deep ∙ rw (one_named job nums count f by place_is_lem l, one_path job nums count f by place_is_lem l, v.filed.texts f l) in
              record {
                kept = gone.kept;
                back = gone.back;
                refuses = λ q. absurd (q refl);
                opens = λ q. record {
                  deep = deep;
                  file = l;
                  held = gone.held;
                  more = gone.more;
                  log = gone.log;
                  is = λ text. gone.is text ∙ ap (restored (m text)) (one_is text);
                };
              }

-- ---- of the place
place_end : Result Place Stop → ℕ
place_end (Ok q) = q.end
place_end (Err x) = 0

ok_one : Result Place Stop → ℕ
ok_one (Ok q) = 1
ok_one (Err x) = 0

module _ (files area words : List ℕ) (count n k : ℕ) (p : Place) (v : Asked files area words count n k p) (area' : List ℕ) (w : Result Place Stop) (len : length area' ≡ length area) (q : Place) (z : w ≡ Ok q) where
  room : p.end ≤ length area
  room = omega (arith, v.line.space.room)

  shifts_in : (t : Bytes) (b : Bool) → scope_fits p.scopes t ≡ b → Shifts files area area' p t w b → q.end ≤ length area'
  unfolding place_end ok_one
  shifts_in t true e g =
      let f : p.scopes + length t ≤ 8192 = leb-true (p.scopes + length t) 8192 (both (leb (length t) 512) (leb (p.scopes + length t) 8192) e).1 in
      let h : q.end ≡ g.place.end = ap place_end (sym z ∙ g.is) in
      omega (arith, f, g.few, v.line.space.room, len, h)
  shifts_in t false e g = absurd (let h : ◌≡◌ {A = ℕ} 1 0 = ap ok_one (sym z ∙ g.is) in omega (arith, h))

  leads_in : (o : Option Bytes) → Leads files area area' p o w → q.end ≤ length area'
  unfolding place_end
  leads_in None g = let h : q.end ≡ p.end = ap place_end (sym z ∙ g.is) in omega (arith, h, room, len)
  leads_in (Some x) g =
      shifts_in (entered (string (files ++ take p.end area) p.scope) x) (scope_fits p.scopes (entered (string (files ++ take p.end area) p.scope) x)) refl g

  module _ (g : Leads files area area' p (option_of (ascii "-scope") (words_from (files ++ take p.end area) words n 1)) w) where
    pub end_in_lem : q.end ≤ length area'
    end_in_lem = leads_in (option_of (ascii "-scope") (words_from (files ++ take p.end area) words n 1)) g

    pub end_count : q.end ≡ length (take q.end area')
    end_count = sym (length-take-le q.end area' end_in_lem)

-- ---- of each state that has the place
module _ (job files area nums words : List ℕ) (count n k left : ℕ) (p : Place) (area' : List ℕ) (w : Result Place Stop) (len : length area' ≡ length area)
    (g : Leads files area area' p (option_of (ascii "-scope") (words_from (files ++ take p.end area) words n 1)) w) where
  abbrev Does : Result Load Stop → Type 0
  Does b = (s : State) → Loading job files area nums words count n k left s → Scopes·placeOf s ≡ p → Loaded job files area area' nums count words n k left s (opened s b) (file_of b)

  abbrev Comes : State → Result Place Stop → Type 0
  Comes s r = Enters files area area' s (option_of (ascii "-scope") (words_from (mem_of files area s) words n 1)) (out_of s r)

  enters : (s : State) → Scopes·placeOf s ≡ p → Comes s w
  enters s e = enters_at files area area' s (λ q. option_of (ascii "-scope") (words_from (files ++ take q.end area) words n 1)) p w e g

  tells_stop : (x : Stop) → w ≡ Err x → Does (Err x)
  tells_stop x z s v h =
      let e : Comes s (Err x) = rw z at (enters s h) in
      loaded_over job files area nums words count n k left s v area' (out_of s (Err x)) len e (numbered x)

  pub tells_over : (x : Stop) → w ≡ Err x → (b : Result Load Stop) → IsErrAnd b (λ y. y ≡ x) → Does b
  tells_over x z b q = let p = err_from_is_err_and b q in rw (p.1, p.2) (tells_stop x z)

  module _ (q : Place) (z : w ≡ Ok q) where
    goes : (s : State) → Scopes·placeOf s ≡ p → Comes s (Ok q)
    goes s h = rw z at (enters s h)

    pub tells_deep : left ≡ 0 → Does (Err stop.TooDeep)
    tells_deep d s v h = loaded_deep job files area nums words count n k left s v area' (out_of s (Ok q)) len (goes s h) refl d

    module _ (d : left ≡ 0 → ⊥) (named : Span) (a : Reads (files ++ take q.end area') words n (name_of (words_from (files ++ take q.end area') words n 1)) named)
        (f : ℕ) (ef : f ≡ place_of (files_in job nums count) (joined_path (path_at job nums k) (bytes (files ++ take q.end area') named))) where
      pub tells_none : f ≡ count → Does (Err stop.NotListed)
      tells_none e s v h = loaded_none job files area nums words count n k left s v area' (out_of s (Ok q)) len (goes s h) refl d named a f ef e

      pub tells_one : (f ≡ count → ⊥) → Does (Ok (record { place = q; file = f }))
      tells_one e s v h = loaded_one job files area nums words count n k left s v area' (out_of s (Ok q)) len (goes s h) refl d named a f ef e
