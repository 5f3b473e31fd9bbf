-- Laws: the scope moved. Assumes nothing.
use Rattle.std.specs.Prelude.{Option, Some, None, Result, Ok, Err}
use Prim.Native.Nat.{ℕ, ◌+◌, ◌-◌, ◌≤◌, ◌<◌, ◌^◌}
use native.Mathlib.Omega.{arith}
use mathlib.Core.Path.{◌≡◌, refl, sym, ap, ◌∙◌}
use mathlib.Core.Bool.{Bool, true, false, cond, ◌||◌}
use mathlib.Core.List.{List, [], ◌∷◌, ◌++◌, append-nil}
use lib.Dec.{ltb}
use lib.ListN.{length, take, drop, set, length-take, length-drop, length-append, length-set}
use lib.Seq.{take_all, length-take-le, take-set-le, drop_at, drop-append-add}
use borrow.Author.Rules.{rules}
use borrow.Author.Tests.{le-leb, lt-leb, ltb-true, ltb-false}
use Rattle.text.specs.Ascii.{Bytes, ascii}
use Rattle.text.specs.Sames.{no_true}
use Rattle.spans.specs.Span.{◌⋯◌, bytes}
use Rattle.spans.specs.Area.{Wrote}
use Rattle.spans.specs.Writes.{Written, written_none, written_piece, written_byte, written_all, wrote_kept, wrote_long, wrote_back, wrote_front}
use Rattle.spans.specs.Reach.{reach, stored, reach_held, reach_end, none_reach}
use Rattle.spans.specs.declared.span.Span.{Span}
use Rattle.tcl.specs.Arguments.{name_of, option_of}
use Rattle.args.specs.View.{words_from, Reads, Finds}
use Rattle.model.specs.Scope.{below, moved, entered}
use Rattle.store.specs.Strings.{string, span_of, stored_of}
use Rattle.store.specs.declared.stored.Stored.{Stored}
use Rattle.store.specs.declared.state.State.{State}
use Rattle.scopes.specs.declared.go.Place.{Place}
use Rattle.scopes.specs.declared.go.Stop.{Stop}
use Rattle.scopes.specs.declared.go.Stop.TheVariants as stop
use Rattle.scopes.specs.Target.{target_of, Targets}
use Rattle.scopes.specs.Moves.{scope_fits, place_of, out_of, Reaches, Space, Aims, Line, Moves, Goes, Shifts, Leads}
use Rattle.scopes.specs.States.{moves_at}

-- ---- the limits
neither : (x y : Bool) → (x || y) ≡ false → (x ≡ false) × (y ≡ false)
neither true y e = absurd (no_true (sym e))
neither false y e = (refl, e)

module _ (all : ℕ) (t : Bytes) (n : ℕ) (e : n ≡ length t) (h : all ≤ 8192) where
  by_parts : (a b : Bool) → ltb 512 n ≡ a → ltb (8192 - all) n ≡ b → scope_fits all t ≡ cond (a || b) false true
  by_parts true b p q = rw (← e, lt-leb n 512 (ltb-true 512 n p))
  by_parts false true p q =
      let x : n ≤ 512 = ltb-false 512 n p in
      let y : 8192 - all < n = ltb-true (8192 - all) n q in
      rw (← e, le-leb n 512 x, lt-leb (all + n) 8192 (omega arith))
  by_parts false false p q =
      let x : n ≤ 512 = ltb-false 512 n p in
      let y : n ≤ 8192 - all = ltb-false (8192 - all) n q in
      rw (← e, le-leb n 512 x, le-leb (all + n) 8192 (omega arith))

  pub over : (ltb 512 n || ltb (8192 - all) n) ≡ true → scope_fits all t ≡ false
  over g = by_parts (ltb 512 n) (ltb (8192 - all) n) refl refl ∙ rw g

  pub under : (ltb 512 n || ltb (8192 - all) n) ≡ false → scope_fits all t ≡ true
  under g = by_parts (ltb 512 n) (ltb (8192 - all) n) refl refl ∙ rw g

  pub short : (ltb 512 n || ltb (8192 - all) n) ≡ false → n ≤ 512
  short g = ltb-false 512 n (neither (ltb 512 n) (ltb (8192 - all) n) g).0

  pub few : (ltb 512 n || ltb (8192 - all) n) ≡ false → all + n ≤ 8192
  few g = let y : n ≤ 8192 - all = ltb-false (8192 - all) n (neither (ltb 512 n) (ltb (8192 - all) n) g).1 in omega arith

-- ---- to a string that is there
pub bytes_long : (mem : Bytes) (s : Span) → s.at + s.len ≤ length mem → length (bytes mem s) ≡ s.len
unfolding bytes
bytes_long mem s h = omega (arith, length-take s.len (drop s.at mem), length-drop s.at mem)

module _ (files area : Bytes) (s : Place) (t : Span) (v : Reaches files area s t) where
  whole : t.at + t.len ≤ length (files ++ area)
  whole = omega (arith, reach_end (length files) t, v.string, v.end, length-append files area)

  pub to_fits : t.at + t.len < 2 ^ 32
  to_fits = omega (arith, reach_end (length files) t, v.string, v.small)

  module _ (n : ℕ) (e : n ≡ length (bytes (files ++ area) t)) where
    pub to_over : (ltb 512 n || ltb (8192 - s.scopes) n) ≡ true → Goes (files ++ area) s t (Err stop.PastLimit) (scope_fits s.scopes (bytes (files ++ area) t))
    to_over g = rw (over s.scopes (bytes (files ++ area) t) n e v.counted g) refl

    module _ (g : (ltb 512 n || ltb (8192 - s.scopes) n) ≡ false) where
      pub to_few : s.scopes + n ≤ 8192
      to_few = few s.scopes (bytes (files ++ area) t) n e v.counted g

      pub to_add : s.scopes + n < 2 ^ 64
      to_add = omega (arith, to_few)

      pub to_under : (y : Stored) → y ≡ stored_of t → Goes (files ++ area) s t (Ok (record { scope = y; scopes = s.scopes + n; end = s.end })) (scope_fits s.scopes (bytes (files ++ area) t))
      to_under y ey =
          rw (under s.scopes (bytes (files ++ area) t) n e v.counted g)
          (record {
            is = rw (ey, e);
            long = omega (arith, short s.scopes (bytes (files ++ area) t) n e v.counted g, e, bytes_long (files ++ area) t whole);
          })

-- seen from the whole area, of which nothing is changed
module _ (files area : Bytes) (s : Place) (x : Span) (t : Bytes) (r : Result Place Stop) (v : Reaches files (take s.end area) s x) (e : bytes (files ++ take s.end area) x ≡ t) where
  seen : (b : Bool) → Goes (files ++ take s.end area) s x r b → Shifts files area area s t r b
  seen true g =
      record {
        place = record { scope = stored_of x; scopes = s.scopes + length (bytes (files ++ take s.end area) x); end = s.end };
        is = g.is;
        scope = e;
        scopes = rw e;
        more = omega arith;
        few = omega arith;
        kept = refl;
        back = refl;
        reaches = v.string;
        long = g.long;
      }
  seen false g = record { is = g; same = refl }

  pub goes_moves : Goes (files ++ take s.end area) s x r (scope_fits s.scopes (bytes (files ++ take s.end area) x)) → Shifts files area area s t r (scope_fits s.scopes t)
  goes_moves g = seen (scope_fits s.scopes t) (rw e at g)

-- the area up to its end, lent
module _ (files area : Bytes) (s : Place) (v : Space files area s) where
  pub end_in_lem : s.end ≤ length area
  end_in_lem = omega (arith, v.room)

  pub up_to_lem : (x : Span) → reach (length files) x ≤ length files + s.end → Reaches files (take s.end area) s x
  up_to_lem x h = record { counted = v.counted; end = length-take-le s.end area end_in_lem; string = h; small = omega (arith, v.small, end_in_lem) }

-- ---- below the scope
module _ (files area : Bytes) (o : ℕ) (x y : Span) (room : o + (length (bytes (files ++ take o area) x) + 1 + length (bytes (files ++ take o area) y)) ≤ length area) where
  abbrev A : Bytes
  A = bytes (files ++ take o area) x

  abbrev B : Bytes
  B = bytes (files ++ take o area) y

  module _ (area1 : Bytes) (p : ℕ) (w : Wrote area area1 o A p) where
    first_in : p ≤ length area
    first_in = omega (arith, room, w.ends)

    first_long : length area1 ≡ length area
    first_long = wrote_long area area1 o A p w first_in

    pub slash_in_lem : p < length area1
    slash_in_lem = omega (arith, first_long, room, w.ends)

    slashed : take o (set area1 p 47) ≡ take o area
    slashed = take-set-le o area1 p 47 (omega (arith, w.ends)) ∙ wrote_kept area area1 o A p w first_in

    second_is : bytes (files ++ take o (set area1 p 47)) y ≡ B
    second_is = rw slashed

    pub second_room : p + 1 + length (bytes (files ++ take o (set area1 p 47)) y) ≤ length (set area1 p 47)
    second_room = rw second_is (omega (arith, length-set area1 p 47, first_long, room, w.ends))

    module _ (area3 : Bytes) (e : ℕ) (w3 : Wrote (set area1 p 47) area3 (p + 1) (bytes (files ++ take o (set area1 p 47)) y) e) where
      pub ends_is : e ≡ o + (length A + 1 + length B)
      ends_is = w3.ends ∙ rw second_is (omega (arith, w.ends))

      pub below_wrote : Wrote area area3 o (A ++ (47 ∷ B)) e
      below_wrote =
          let in3 : e ≤ length area = omega (arith, ends_is, room) in
          let v0 = written_none area o (A ++ (47 ∷ B)) (omega (arith, room)) in
          let v1 = written_piece area o (A ++ (47 ∷ B)) A (47 ∷ B) area area1 o p v0 first_in w in
          let v2 = written_byte area o (A ++ (47 ∷ B)) 47 B area1 p (omega (arith, first_long, slash_in_lem)) v1 in
          let v3 : Written area o (A ++ (47 ∷ B)) (B ++ []) (set area1 p 47) (p + 1) = rw append-nil v2 in
          let w4 : Wrote (set area1 p 47) area3 (p + 1) B e = rw second_is at w3 in
          written_all area o (A ++ (47 ∷ B)) area3 e (written_piece area o (A ++ (47 ∷ B)) B [] (set area1 p 47) area3 (p + 1) e v3 in3 w4)

-- what was written, as a string
pub wrote_is : (files l₀ l new : Bytes) (o e : ℕ) → Wrote l₀ l o new e → e ≤ length l₀ → bytes (files ++ take e l) ((length files + o) ⋯ length new) ≡ new
unfolding bytes
wrote_is files l₀ l new o e w h =
    let ho : o ≤ length l₀ = omega (arith, w.ends) in
    rw (wrote_front l₀ l o new e w h, drop-append-add files (take o l₀ ++ new) o, drop_at (take o l₀) new o (length-take-le o l₀ ho)) (take_all (length new) new (omega arith))

below_some : (scope name : Bytes) (a : ℕ) → a ≡ length scope → (a ≡ 0 → ⊥) → below scope name ≡ scope ++ (47 ∷ name)
below_some [] name a e h = absurd (h e)
below_some (b ∷ scope) name a e h = refl

below_none : (scope name : Bytes) (a : ℕ) → a ≡ length scope → a ≡ 0 → name ≡ below scope name
below_none [] name a e h = refl
below_none (b ∷ scope) name a e h = absurd (omega (arith, e, h))

module _ (files area : Bytes) (s : Place) (name : Span) (v : Aims files area s name None) where
  abbrev mem : Bytes
  mem = files ++ take s.end area

  abbrev told : Bytes
  told = below (string mem s.scope) (bytes mem name)

  module _ (x : Span) (ex : x ≡ span_of s.scope) (a : ℕ) (ea : a ≡ length (bytes mem x)) where
    -- the scope is the root
    pub below_root : a ≡ 0 → (r : Result Place Stop) → Goes mem s name r (scope_fits s.scopes (bytes mem name)) → Shifts files area area s told r (scope_fits s.scopes told)
    below_root z r g =
        goes_moves files area s name told r (up_to_lem files area s v.space name v.named) (below_none (string mem s.scope) (bytes mem name) a (ea ∙ rw ex) z) g

    short_scope : a ≤ x.len
    unfolding bytes
    short_scope = omega (arith, ea, length-take x.len (drop x.at mem))

    -- the numbers can be counted on
    pub scope_add : a + 1 < 2 ^ 64
    unfolding bytes
    scope_add = omega (arith, ea, length-take x.len (drop x.at mem), length-drop x.at mem, length-append files (take s.end area), length-take-le s.end area (end_in_lem files area s v.space), v.space.small, end_in_lem files area s v.space)

    pub both_add : (b : ℕ) → b ≡ length (bytes mem name) → a + 1 + b < 2 ^ 64
    unfolding bytes
    both_add b eb =
        omega (arith, ea, eb, length-take x.len (drop x.at mem), length-drop x.at mem, length-take name.len (drop name.at mem), length-drop name.at mem, length-append files (take s.end area), length-take-le s.end area (end_in_lem files area s v.space), v.space.small, end_in_lem files area s v.space)

    module _ (z : a ≡ 0 → ⊥) (b : ℕ) (eb : b ≡ length (bytes mem name)) where
      told_is : told ≡ bytes mem x ++ (47 ∷ bytes mem name)
      told_is = rw ex (below_some (string mem s.scope) (bytes mem name) a (ea ∙ rw ex) z)

      told_long : a + 1 + b ≡ length told
      told_long = rw (told_is, length-append) (omega (arith, ea, eb))

      pub below_over : (ltb 512 (a + 1 + b) || ltb (8192 - s.scopes) (a + 1 + b)) ≡ true → Shifts files area area s told (Err stop.PastLimit) (scope_fits s.scopes told)
      below_over g = rw (over s.scopes told (a + 1 + b) told_long v.space.counted g) (record { is = refl; same = refl })

      module _ (g : (ltb 512 (a + 1 + b) || ltb (8192 - s.scopes) (a + 1 + b)) ≡ false) where
        pub below_few : s.scopes + (a + 1 + b) ≤ 8192
        below_few = few s.scopes told (a + 1 + b) told_long v.space.counted g

        pub below_short : a + 1 + b ≤ 512
        below_short = short s.scopes told (a + 1 + b) told_long v.space.counted g

        pub below_room : s.end + (length (bytes mem x) + 1 + length (bytes mem name)) ≤ length area
        below_room = omega (arith, below_few, v.space.room, ea, eb)

        pub scopes_add : s.scopes + (a + 1 + b) < 2 ^ 64
        scopes_add = omega (arith, below_few)

        pub below_stored : length files + s.end + (a + 1 + b) < 2 ^ 32
        below_stored = omega (arith, below_few, v.space.room, v.space.small)

        pub first_room : (s.end ≤ s.end) × (s.end + length (bytes mem x) ≤ length area)
        first_room = (omega arith, omega (arith, below_room))

        module _ (area1 : Bytes) (p : ℕ) (w : Wrote area area1 s.end (bytes mem x) p) where
          pub slash_add : p + 1 < 2 ^ 64
          slash_add = omega (arith, w.ends, below_room, v.space.small)

          pub next_room : (s.end ≤ p + 1) × (p + 1 + length (bytes (files ++ take s.end (set area1 p 47)) name) ≤ length (set area1 p 47))
          next_room = (omega (arith, w.ends), second_room files area s.end x name below_room area1 p w)

        module _ (area1 : Bytes) (p : ℕ) (w : Wrote area area1 s.end (bytes mem x) p) (area3 : Bytes) (e : ℕ)
            (w3 : Wrote (set area1 p 47) area3 (p + 1) (bytes (files ++ take s.end (set area1 p 47)) name) e) where
          end_is : e ≡ s.end + (a + 1 + b)
          end_is = ends_is files area s.end x name below_room area1 p w area3 e w3 ∙ rw (ea, eb)

          new : Wrote area area3 s.end told e
          new = rw told_is (below_wrote files area s.end x name below_room area1 p w area3 e w3)

          pub below_in : (y : Stored) → y ≡ stored_of ((length files + s.end) ⋯ (a + 1 + b)) → Shifts files area area3 s told (Ok (record { scope = y; scopes = s.scopes + (a + 1 + b); end = e })) (scope_fits s.scopes told)
          below_in y k =
              let m : e ≤ length area = omega (arith, end_is, below_few, v.space.room) in
              rw (under s.scopes told (a + 1 + b) told_long v.space.counted g)
              (record {
                place = record { scope = y; scopes = s.scopes + (a + 1 + b); end = e };
                is = refl;
                scope = rw (k, told_long) (wrote_is files area area3 told s.end e new m);
                scopes = rw told_long;
                more = omega (arith, end_is);
                few = omega (arith, end_is, told_long);
                kept = wrote_kept area area3 s.end told e new m;
                back = wrote_back area area3 s.end told e new m;
                reaches = rw k (omega (arith, reach_held (length files) ((length files + s.end) ⋯ (a + 1 + b)) (stored (omega arith)), end_is));
                long = rw k below_short;
              })

-- ---- by the target
module _ (files area : Bytes) (s : Place) (name : Span) (t : Option Span) (v : Aims files area s name t) where
  pub aims_count : s.end ≡ length (take s.end area)
  aims_count = sym (length-take-le s.end area (end_in_lem files area s v.space))

  pub aims_at : (x : Span) → t ≡ Some x → Reaches files (take s.end area) s x
  aims_at x e = up_to_lem files area s v.space x (rw e at v.target)

  pub aims_below : t ≡ None → Aims files area s name None
  aims_below e = rw e at v

  pub go_at : (x : Span) → t ≡ Some x → (r : Result Place Stop) → Goes (files ++ take s.end area) s x r (scope_fits s.scopes (bytes (files ++ take s.end area) x))
      → Shifts files area area s (target_of (files ++ take s.end area) (string (files ++ take s.end area) s.scope) (bytes (files ++ take s.end area) name) t) r (scope_fits s.scopes (target_of (files ++ take s.end area) (string (files ++ take s.end area) s.scope) (bytes (files ++ take s.end area) name) t))
  go_at x e r g = rw e (goes_moves files area s x (bytes (files ++ take s.end area) x) r (aims_at x e) refl g)

  pub go_beneath : (area' : Bytes) → t ≡ None → (r : Result Place Stop) → Shifts files area area' s (below (string (files ++ take s.end area) s.scope) (bytes (files ++ take s.end area) name)) r (scope_fits s.scopes (below (string (files ++ take s.end area) s.scope) (bytes (files ++ take s.end area) name)))
      → Shifts files area area' s (target_of (files ++ take s.end area) (string (files ++ take s.end area) s.scope) (bytes (files ++ take s.end area) name) t) r (scope_fits s.scopes (target_of (files ++ take s.end area) (string (files ++ take s.end area) s.scope) (bytes (files ++ take s.end area) name) t))
  go_beneath area' e r g = rw e g

pub ruleset gone = (rules, aims_count, aims_at, aims_below, go_at, go_beneath)

-- ---- the commands
small_end : (files area : Bytes) (s : Place) → Space files area s → length files + s.end < 2 ^ 32
small_end files area s v = omega (arith, v.small, end_in_lem files area s v)

module _ (files area : Bytes) (words : List ℕ) (n : ℕ) (s : Place) (v : Line files area words n s) where
  abbrev known : Bytes
  known = files ++ take s.end area

  pub line_count : s.end ≡ length (take s.end area)
  line_count = sym (length-take-le s.end area (end_in_lem files area s v.space))

  module _ (x : Span) (ex : x ≡ span_of s.scope) where
    scope_reach : reach (length files) x ≤ length files + s.end
    scope_reach = rw ex v.space.scope

    module _ (name : Span) (named : reach (length files) name ≤ length files + s.end) (w goal : Bytes) (ew : bytes known name ≡ w) (t : Option Span) (g : Targets known x name goal t) where
      aims : Aims files area s name t
      aims = record { space = v.space; named = named; target = g.within (length files) (length files + s.end) (small_end files area s v.space) scope_reach named }

      goes : (area' : Bytes) (r : Result Place Stop) → Shifts files area area' s (target_of known (string known s.scope) (bytes known name) t) r (scope_fits s.scopes (target_of known (string known s.scope) (bytes known name) t)) → Shifts files area area' s goal r (scope_fits s.scopes goal)
      goes area' r m = let e : target_of known (string known s.scope) (bytes known name) t ≡ goal = rw ex at g.is in rw e at m

    -- set_scope
    module _ (name : Span) (a : Reads known words n (name_of (words_from known words n 1)) name) (t : Option Span) (g : Targets known x name (moved (bytes known x) (bytes known name)) t) where
      named_reach : reach (length files) name ≤ length files + s.end
      named_reach = omega (arith, a.within (reach (length files)) (none_reach (length files)), v.line)

      pub set_aims : Aims files area s name t
      set_aims = aims name named_reach (bytes known name) (moved (bytes known x) (bytes known name)) refl t g

      pub set_moves : (area' : Bytes) (r : Result Place Stop) → Shifts files area area' s (target_of known (string known s.scope) (bytes known name) t) r (scope_fits s.scopes (target_of known (string known s.scope) (bytes known name) t))
          → (u : State) → place_of u ≡ s → Moves files area area' u (moved (string (files ++ take u.fill.end area) u.head.scope) (name_of (words_from (files ++ take u.fill.end area) words n 1))) (out_of u r) (scope_fits u.count.scopes (moved (string (files ++ take u.fill.end area) u.head.scope) (name_of (words_from (files ++ take u.fill.end area) words n 1))))
      set_moves area' r m u e =
          moves_at files area area' u (λ p. moved (string (files ++ take p.end area) p.scope) (name_of (words_from (files ++ take p.end area) words n 1))) s r e
          (rw (ex, a.is) at (goes name named_reach (bytes known name) (moved (bytes known x) (bytes known name)) refl t g area' r m))

    -- load_upf
    module _ (f : Option Span) (a : Finds known words n (option_of (ascii "-scope") (words_from known words n 1)) f) where
      pub load_same : f ≡ None → Leads files area area s (option_of (ascii "-scope") (words_from known words n 1)) (Ok s)
      load_same e = rw (← a.is, e) (record { is = refl; same = refl })

      module _ (w : Span) (e : f ≡ Some w) (t : Option Span) (g : Targets known x w (entered (bytes known x) (bytes known w)) t) where
        option_reach : reach (length files) w ≤ length files + s.end
        option_reach = omega (arith, rw e at (a.within (reach (length files)) (none_reach (length files))), v.line)

        pub load_aims : Aims files area s w t
        load_aims = aims w option_reach (bytes known w) (entered (bytes known x) (bytes known w)) refl t g

        pub load_moves : (area' : Bytes) (r : Result Place Stop) → Shifts files area area' s (target_of known (string known s.scope) (bytes known w) t) r (scope_fits s.scopes (target_of known (string known s.scope) (bytes known w) t))
            → Leads files area area' s (option_of (ascii "-scope") (words_from known words n 1)) r
        load_moves area' r m = rw (← a.is, e) (rw ex at (goes w option_reach (bytes known w) (entered (bytes known x) (bytes known w)) refl t g area' r m))

pub ruleset scopings = (rules, line_count, set_aims, set_moves, load_same, load_aims, load_moves)
