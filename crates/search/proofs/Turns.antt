-- The search, turn by turn: what the whole call comes to is what was made so far and what the instances left come to.
-- Assumes nothing.
use mathlib.Core.Path.{◌≡◌, refl, ap, ◌∙◌, sym}
use Prim.Native.Nat.{ℕ, zero, suc, ◌+◌, ◌-◌, ◌<◌, ◌≤◌}
use native.Mathlib.Nat.{add-zero}
use native.Mathlib.Numerals.{add-one}
use native.Mathlib.Omega.{arith}
use mathlib.Core.Bool.{Bool, true, false}
use mathlib.Core.List.{List, [], ◌∷◌, map}
use Rattle.std.specs.Prelude.{Option, None, Some, Result, Ok, Err, IsErrAnd}
use lib.ListN.{length, take, drop, set, length-set, length-replicate}
use lib.Seq.{drop-cons, get_or-set_same, drop-set-lt}
use borrow.Author.Rules.{rules}
use Rattle.text.specs.Ascii.{Bytes}
use Rattle.text.specs.Compare.{same}
use Rattle.joblines.specs.Job.{Module}
use Rattle.joblines.specs.Sections.{insts_in}
use Rattle.jobindex.specs.Index.{section, module_row}
use Rattle.jobindex.specs.declared.Span.{Span}
use Rattle.design.specs.Limits.{most_calls}
use Rattle.design.specs.Lists.{on_some}
use Rattle.design.specs.Lookup.{module_named}
use Rattle.design.specs.Search.{Search, nothing, called, under, or_else, at_instance, among_instances, search_from}
use Rattle.lines.specs.Cursors.{spanned, inst_is, InstSeen}
use Rattle.lines.specs.declared.InstAt.{InstAt}
use Rattle.lookup.specs.Rows.{modules, ModuleSeen, insts_from, insts_end, insts_are}
use Rattle.search.specs.declared.Found.{Found}
use Rattle.search.specs.declared.TooMany.{TooMany}
use Rattle.search.specs.declared.Way.{Way}
use Rattle.search.specs.Found.{way_from, Made, Searched, Deeper, no_names, way_to, way_below}

-- ---- answers
no_long : length no_names ≡ 33
no_long = length-replicate {A = Span} 33 (record { at = 0; len = 0 })

-- a way from a depth on, with a name put in front
way_cons : (job : Bytes) (l : List Span) (depth count : ℕ) (n : Span) → depth < length l → depth < count
    → map (spanned job) (take (count - depth) (drop depth (set l depth n))) ≡ spanned job n ∷ map (spanned job) (take (count - (depth + 1)) (drop (depth + 1) l))
way_cons job l depth count n h g =
    let z : count - depth ≡ suc (count - (depth + 1)) = omega arith in
    let s : depth < length (set l depth n) = omega (arith, length-set l depth n) in
    rw (z, drop-cons (set l depth n) depth n s, get_or-set_same l depth n n h, ← add-one depth, drop-set-lt (depth + 1) l depth n (omega arith))

-- ---- calls
calls_one : (d : List Module) (kind : Bytes) (left : ℕ) (m : Module) → 1 ≤ (search_from d kind left m).calls
unfolding search_from
calls_one d kind zero m = omega arith
calls_one d kind (suc left) m = omega arith

least : (s r : Search) → s.calls ≤ (or_else s r).calls
least s r = go s.found
  where
    go : (o : Option (List Bytes)) → s.calls ≤ (on_some o (record { found = r.found; calls = s.calls + r.calls }) (λ ns. s)).calls
    go None = omega arith
    go (Some ns) = omega arith

-- nothing found so far: the calls add up
module _ (job : Bytes) (depth calls : ℕ) (s : Search) where
  none_here : (made : ℕ) → s.found ≡ None → calls + s.calls ≡ made → made ≤ 4096 → Searched job depth calls s (Ok (record { calls = made; way = None }))
  none_here made f e h = record { calls_is = sym e; few = h; way_is = sym f; goes = tt }

-- ---- a call
module _ (job : Bytes) (index : List ℕ) (count : ℕ) (kind : Bytes) (k left calls : ℕ) where
  abbrev whole : Search
  whole = search_from (modules job index count) kind left (module_row job index k)

  pub call_over : calls ≡ 4096 → (e : TooMany) → Searched job (33 - left) calls whole (Err e)
  call_over h e = omega (arith, calls_one (modules job index count) kind left (module_row job index k))

  pub call_last : calls ≤ 4096 → (calls ≡ 4096 → ⊥) → left ≡ 0 → Searched job (33 - left) calls whole (Ok (record { calls = calls + 1; way = None }))
  unfolding search_from
  call_last l h z = rw z (none_here job 33 calls (called nothing) (calls + 1) refl (omega arith) (omega arith))

  -- the instances left, from `at` up to `end`
  abbrev rest : ℕ → ℕ → Search
  rest at end = among_instances (modules job index count) kind (search_from (modules job index count) kind (left - 1)) (insts_in (section job at end))

-- the whole is what was made, and the rest
pub record Left (job : Bytes) (index : List ℕ) (count : ℕ) (kind : Bytes) (k left calls made at end : ℕ) : Type 0 where
  pub total : calls + (whole job index count kind k left calls).calls ≡ made + (rest job index count kind k left calls at end).calls
  pub found_by_lem : (whole job index count kind k left calls).found ≡ (rest job index count kind k left calls at end).found
  pub few : made ≤ 4096
  pub room : calls < 4096
  pub deep : left ≤ 33
  pub more : 0 < left
  pub many : count ≤ 128

module _ (job : Bytes) (index : List ℕ) (count : ℕ) (kind : Bytes) (k left calls : ℕ) where
  pub left_start : count ≤ 128 → left ≤ 33 → calls ≤ 4096 → (calls ≡ 4096 → ⊥) → (left ≡ 0 → ⊥) → (at end : ℕ) → at ≡ insts_from index k → end ≡ insts_end index k → Left job index count kind k left calls (calls + 1) at end
  unfolding search_from
  left_start l128 l33 l h z at end ea ee =
      let s : left ≡ suc (left - 1) = omega arith in
      let e : search_from (modules job index count) kind left (module_row job index k) ≡ called (rest job index count kind k left calls at end) =
      ap (λ n. search_from (modules job index count) kind n (module_row job index k)) s ∙ rw (insts_are job index k, ea, ee) in
      record { total = ap (λ (q : Search). calls + q.calls) e ∙ omega arith; found_by_lem = ap (λ (q : Search). q.found) e; few = omega arith; room = omega arith; deep = l33; more = omega arith; many = l128 }

  module _ (made at end : ℕ) (inv : Left job index count kind k left calls made at end) where
    pub left_end : InstSeen job at end None → Searched job (33 - left) calls (whole job index count kind k left calls) (Ok (record { calls = made; way = None }))
    unfolding among_instances
    left_end seen =
        let n : rest job index count kind k left calls at end ≡ nothing = rw (← seen.says) in
        none_here job (33 - left) calls (whole job index count kind k left calls) made (inv.found_by_lem ∙ ap (λ (q : Search). q.found) n) (inv.total ∙ (ap (λ (q : Search). made + q.calls) n ∙ add-zero made)) inv.few

    module _ (i : InstAt) (seen : InstSeen job at end (Some i)) where
      pub left_less : end - i.next < end - at
      left_less = omega (arith, seen.goes.further, seen.goes.within)

      abbrev here : Search
      here = at_instance (modules job index count) kind (search_from (modules job index count) kind (left - 1)) (inst_is job end i.dims i.name i.kind i.next)

      rest_here : rest job index count kind k left calls at end ≡ or_else here (rest job index count kind k left calls i.next end)
      unfolding among_instances
      rest_here = rw (← seen.says)

      module _ (p : Bytes) (ep : p ≡ spanned job i.kind) (b : Bool) (eb : b ≡ same p kind) where
        test : same (spanned job i.kind) kind ≡ b
        test = sym (eb ∙ ap (λ (q : Bytes). same q kind) ep)

        pub left_found : b ≡ true → (depth : ℕ) → depth ≡ 33 - left → (w : Way) → w ≡ way_to depth i.name → Searched job (33 - left) calls (whole job index count kind k left calls) (Ok (record { calls = made; way = Some w }))
        left_found h depth ed w e =
            let s : rest job index count kind k left calls at end ≡ record { found = Some (spanned job i.name ∷ []); calls = 0 } = rest_here ∙ rw (test, h) in
            let c : calls + (whole job index count kind k left calls).calls ≡ made = inv.total ∙ (ap (λ (q : Search). made + q.calls) s ∙ add-zero made) in
            let one : depth + 1 - (depth + 1) ≡ 0 = omega arith in
            rw (e, ← ed) (record {
              calls_is = sym c;
              few = inv.few;
              way_is = ap (λ (w : List Bytes). Some w) (way_cons job no_names depth (depth + 1) i.name (omega (arith, no_long, inv.more)) (omega arith) ∙ rw one) ∙ sym (inv.found_by_lem ∙ ap (λ (q : Search). q.found) s);
              goes = (omega arith, length-set no_names depth i.name ∙ no_long);
            })

        module _ (h : b ≡ false) where
          abbrev NamedIs : Option ℕ → Type 0
          NamedIs = ModuleSeen job index count (module_named (modules job index count) p)

          pub left_unlisted : NamedIs None → Left job index count kind k left calls made i.next end
          left_unlisted named =
              let m : module_named (modules job index count) (spanned job i.kind) ≡ None = rw (← ep, ← named.says) in
              let s : rest job index count kind k left calls at end ≡ or_else nothing (rest job index count kind k left calls i.next end) = rest_here ∙ rw (test, h, m) in
              record {
                total = inv.total ∙ (ap (λ (q : Search). made + q.calls) s ∙ omega arith);
                found_by_lem = inv.found_by_lem ∙ ap (λ (q : Search). q.found) s;
                few = inv.few;
                room = inv.room;
                deep = inv.deep;
                more = inv.more;
                many = inv.many;
              }

          module _ (row : ℕ) (named : NamedIs (Some row)) where
            abbrev sub : Search
            sub = search_from (modules job index count) kind (left - 1) (module_row job index row)

            rest_listed : rest job index count kind k left calls at end ≡ or_else (under (spanned job i.name) sub) (rest job index count kind k left calls i.next end)
            rest_listed =
                let m : module_named (modules job index count) (spanned job i.kind) ≡ Some (module_row job index row) = rw (← ep, ← named.says) in
                rest_here ∙ rw (test, h, m)

            pub left_over : most_calls < made + sub.calls → (r : Result Found TooMany) (x : TooMany) → IsErrAnd r (λ y. y ≡ x) → Searched job (33 - left) calls (whole job index count kind k left calls) r
            left_over m (Err y) x q =
                let l = least (under (spanned job i.name) sub) (rest job index count kind k left calls i.next end) in
                let e : (rest job index count kind k left calls at end).calls ≡ (or_else (under (spanned job i.name) sub) (rest job index count kind k left calls i.next end)).calls = ap (λ (q : Search). q.calls) rest_listed in
                omega (arith, inv.total)
            left_over m (Ok f) x q = absurd q

            module _ (f : Found) (s : Made job (33 - (left - 1)) made sub f) where
              within : made + sub.calls ≤ 4096
              within = omega (arith, s.calls_is, s.few)

              pub left_below : (v : Way) → f.way ≡ Some v → (depth : ℕ) → depth ≡ 33 - left → (w : Way) → w ≡ way_below v depth i.name → Searched job (33 - left) calls (whole job index count kind k left calls) (Ok (record { calls = f.calls; way = Some w }))
              left_below v y depth ed w e =
                  let deep : 33 - (left - 1) ≡ depth + 1 = omega (arith, inv.deep, inv.more) in
                  let g : Deeper (depth + 1) (Some v) = rw (deep, y) at s.goes in
                  let u : sub.found ≡ Some (way_from job (depth + 1) v) = sym s.way_is ∙ rw (y, deep) in
                  let r : rest job index count kind k left calls at end ≡ under (spanned job i.name) sub = rest_listed ∙ rw u in
                  let c : calls + (whole job index count kind k left calls).calls ≡ made + sub.calls = inv.total ∙ ap (λ (q : Search). made + q.calls) r in
                  let path : map (spanned job) (take (v.count - depth) (drop depth (set v.names depth i.name))) ≡ spanned job i.name ∷ way_from job (depth + 1) v =
                  way_cons job v.names depth v.count i.name (omega (arith, g.1, inv.more)) (omega (arith, g.0)) in
                  let under_is : (under (spanned job i.name) sub).found ≡ Some (spanned job i.name ∷ way_from job (depth + 1) v) = rw u in
                  let found : (whole job index count kind k left calls).found ≡ Some (spanned job i.name ∷ way_from job (depth + 1) v) = inv.found_by_lem ∙ (ap (λ (q : Search). q.found) r ∙ under_is) in
                  rw (e, ← ed) (record {
                    calls_is = s.calls_is ∙ sym c;
                    few = s.few;
                    way_is = rw path (sym found);
                    goes = (omega (arith, g.0), length-set v.names depth i.name ∙ g.1);
                  })

              pub left_on : f.way ≡ None → Left job index count kind k left calls f.calls i.next end
              left_on y =
                  let w : sub.found ≡ None = sym s.way_is ∙ rw y in
                  let r : rest job index count kind k left calls at end ≡ record { found = (rest job index count kind k left calls i.next end).found; calls = sub.calls + (rest job index count kind k left calls i.next end).calls } = rest_listed ∙ rw w in
                  record {
                    total = inv.total ∙ (ap (λ (q : Search). made + q.calls) r ∙ omega (arith, s.calls_is));
                    found_by_lem = inv.found_by_lem ∙ ap (λ (q : Search). q.found) r;
                    few = s.few;
                    room = inv.room;
                    deep = inv.deep;
                    more = inv.more;
                    many = inv.many;
                  }

pub ruleset starts = (rules, call_over, call_last, left_start)

pub ruleset ends = (rules, left_end)

pub ruleset turns = (rules, left_less, left_unlisted, left_on)

pub ruleset founds = (rules, left_found)

pub ruleset overs = (rules, left_over)

pub ruleset belows = (rules, left_below)
