-- The loop that resolves the words of a command: laws as the needs ask them. Assumes nothing.
use Rattle.std.specs.Prelude.{Result, Ok, Err}
use Rattle.substitution.specs.declared.put.Full.{Full}
use Rattle.substitution.specs.Room.{full}
use Prim.Native.Nat.{◌*◌, ◌+◌, ◌-◌, ◌<◌, ◌≤◌, suc, zero, ℕ, ◌^◌}
use mathlib.Core.List.{List, [], ◌++◌, ◌∷◌, append_assoc, append-nil, map-append}
use mathlib.Core.Path.{◌∙◌, ◌≡◌, ap, refl, sym}
use native.Mathlib.Omega.{arith}
use native.Mathlib.Nat.{add-zero, sub-zero, zero-add}
use lib.Seq.{drop-drop, get_or-drop, take-take}
use lib.ListN.{drop, get_or, length, length-set, set, take}
use borrow.Author.Rules.{rules}
use Rattle.spans.specs.declared.span.Span.{Span}
use Rattle.spans.specs.Span.{pair_at, pairs, strings}
use Rattle.spans.specs.Writes.{Written, written_all, written_kept, written_none, written_over, written_piece, wrote_kept}
use Rattle.commands.specs.Reading.{result, results}
use Rattle.spans.specs.Frame.{known_grows, last_end, pairs_push, push_back, strings_same}
use Rattle.spans.specs.Reach.{last_of, reach, reach_end, last_end_lem, last_push}
use Rattle.text.specs.Lists.{head_is}
use Rattle.commands.specs.Stored.{AllAt, AllOver, Placed, PlacedAt, PlacedOver, written_at, written_words}
use Rattle.tcl.specs.Substitution.{Variable, value, values}
use Rattle.substitution.specs.Stored.{variables}

-- the first j of n words are resolved: what they and those that are left come to is what all come to
pub record Resolving (files t : List ℕ) (vs : List Variable) (l₀ l k₀ k : List ℕ) (at n j o : ℕ) : Type 0 where
  pub are : strings (files ++ take o l) k 0 j ++ values vs (written_words t k₀ j (n - j)) ≡ values vs (written_words t k₀ 0 n)
  pub wrote : Written l₀ at (results vs (written_words t k₀ 0 n)) (results vs (written_words t k₀ j (n - j))) l o
  pub inside : last_of (reach (length files)) (pairs k 0 j) ≤ length files + o
  pub rest : drop (2 * j) k ≡ drop (2 * j) k₀
  pub long : length k ≡ length k₀
  pub some : j ≤ n

-- there is room for what is written
pub record Room (files l₀ k₀ : List ℕ) (limit n o : ℕ) : Type 0 where
  pub fits : o ≤ limit
  pub area : limit ≤ length l₀
  pub small : length files + length l₀ < 2 ^ 32
  pub nums : 2 * n ≤ length k₀
  pub few : n ≤ 128

pub resolving_start : (files t : List ℕ) (vs : List Variable) (l k : List ℕ) (at n limit : ℕ) → at ≤ limit → limit ≤ length l → Resolving files t vs l l k k at n 0 at
unfolding pairs last_of
resolving_start files t vs l k at n limit h g =
    record { are = rw sub-zero; wrote = rw sub-zero (written_none l at (results vs (written_words t k 0 n)) (omega arith)); inside = omega arith; rest = refl; long = refl; some = omega arith }

-- a span among several ends with them
end_at : (l : List ℕ) (i n j : ℕ) → j < n → (pair_at l (i + j)).at + (pair_at l (i + j)).len ≤ last_end (pairs l i n)
unfolding pairs last_end
end_at l i zero j h = absurd (omega arith)
end_at l i (suc n) zero h = rw add-zero (omega arith)
end_at l i (suc n) (suc j) h =
    let q : i + 1 + j ≡ i + suc j = omega arith in
    let g : (pair_at l (i + 1 + j)).at + (pair_at l (i + 1 + j)).len ≤ last_end (pairs l (i + 1) n) = end_at l (i + 1) n j (omega arith) in
    rw (← q) (omega arith)

module _ (files t : List ℕ) (vs : List Variable) (l₀ l k₀ k : List ℕ) (at n j o : ℕ) (inv : Resolving files t vs l₀ l k₀ k at n j o) where
  pub resolving_up : at ≤ o
  resolving_up = inv.wrote.low

  same_pair : pair_at k j ≡ pair_at k₀ j
  same_pair =
      let e : get_or (drop (2 * j) k) 0 0 ≡ get_or (drop (2 * j) k₀) 0 0 = rw inv.rest in
      let f : get_or (drop (2 * j) k) 1 0 ≡ get_or (drop (2 * j) k₀) 1 0 = rw inv.rest in
      let e' : get_or k (2 * j) 0 ≡ get_or k₀ (2 * j) 0 = sym (head_is k (2 * j)) ∙ e ∙ head_is k₀ (2 * j) in
      let f' : get_or k (2 * j + 1) 0 ≡ get_or k₀ (2 * j + 1) 0 = sym (get_or-drop (2 * j) k 1 0) ∙ f ∙ get_or-drop (2 * j) k₀ 1 0 in
      rw (e', f')

  module _ (h : j < n) (s : Span) (g : s ≡ pair_at k j) where
    pub pair_in : last_end (pairs k₀ 0 n) ≤ length t → s.at + s.len ≤ length t
    pair_in z =
        let a : (pair_at k₀ (0 + j)).at + (pair_at k₀ (0 + j)).len ≤ last_end (pairs k₀ 0 n) = end_at k₀ 0 n j h in
        let e : s ≡ pair_at k₀ j = g ∙ same_pair in
        rw e (omega (arith, rw zero-add at a))

    next : written_words t k₀ j (n - j) ≡ written_at t s ∷ written_words t k₀ (j + 1) (n - (j + 1))
    unfolding pairs
    next =
        let q : n - j ≡ suc (n - (j + 1)) = omega arith in
        rw (q, g, same_pair)

    module _ (vars : List ℕ) (nv m : ℕ) (v : vs ≡ variables (files ++ take m l₀) vars nv) (u : m ≡ at) where
      same_vs : variables (files ++ take m l) vars nv ≡ vs
      same_vs = rw u (rw (written_kept l₀ at (results vs (written_words t k₀ 0 n)) (results vs (written_words t k₀ j (n - j))) l o inv.wrote) (rw u at (sym v)))

      module _ (limit : ℕ) (l' : List ℕ) (r : Result (Span × ℕ) Full)
          (p : Placed files l l' o limit (value (variables (files ++ take m l) vars nv) (written_at t s)) (result (variables (files ++ take m l) vars nv) (written_at t s)) r) where
        p' : Placed files l l' o limit (value vs (written_at t s)) (result vs (written_at t s)) r
        p' = rw same_vs at p

        left : Written l₀ at (results vs (written_words t k₀ 0 n)) (result vs (written_at t s) ++ results vs (written_words t k₀ (j + 1) (n - (j + 1)))) l o
        unfolding results
        left = rw next at inv.wrote

        pub resolving_over : r ≡ Err full → Room files l₀ k₀ limit n o → AllOver l₀ l' k₀ k vs at limit (written_words t k₀ 0 n) n
        resolving_over e m =
            let d : PlacedOver l l' o limit (result vs (written_at t s)) = rw e at p' in
            let up : at ≤ o = inv.wrote.low in
            let x : o + (limit - o) ≡ limit = omega (arith, m.fits) in
            let y : 2 * j + 2 * (n - j) ≡ 2 * n = omega arith in
            record {
              over = written_over l₀ at (results vs (written_words t k₀ 0 n)) (result vs (written_at t s)) (results vs (written_words t k₀ (j + 1) (n - (j + 1)))) l o limit left d.over;
              kept = sym (take-take at o l' up) ∙ ap (take at) d.kept ∙ take-take at o l up ∙ written_kept l₀ at (results vs (written_words t k₀ 0 n)) (results vs (written_words t k₀ j (n - j))) l o inv.wrote;
              back = d.back ∙ (sym (drop-drop (limit - o) o l ∙ rw x) ∙ ap (drop (limit - o)) inv.wrote.back ∙ drop-drop (limit - o) o l₀ ∙ rw x);
              rest = sym (drop-drop (2 * (n - j)) (2 * j) k ∙ rw y) ∙ ap (drop (2 * (n - j))) inv.rest ∙ drop-drop (2 * (n - j)) (2 * j) k₀ ∙ rw y;
            }

        module _ (w : Span) (e : ℕ) (d : r ≡ Ok (w, e)) where
          here_at : PlacedAt files l l' o limit (value vs (written_at t s)) (result vs (written_at t s)) w e
          here_at = rw d at p'

          pub resolving_fits : e ≤ limit
          resolving_fits = here_at.fits

          pub place_in : w.at + w.len ≤ length files + e
          place_in = omega (arith, here_at.inside, reach_end (length files) w)

          module _ (room_is : Room files l₀ k₀ limit n o) where
            room : 2 * j + 1 < length k
            room = omega (arith, inv.long, room_is.nums)

            long : length l ≡ length l₀
            long = inv.wrote.long

            k' : List ℕ
            k' = set (set k (2 * j) w.at) (2 * j + 1) w.len

            grown : pairs k' 0 (j + 1) ≡ pairs k 0 j ++ (w ∷ [])
            unfolding k'
            grown = pairs_push k j w.at w.len room

            up : o ≤ e
            up = omega (arith, here_at.wrote.ends)

            kept : take o l' ≡ take o l
            kept = wrote_kept l l' o (result vs (written_at t s)) e here_at.wrote (omega (arith, here_at.fits, long, room_is.area))

            older : strings (files ++ take e l') k 0 j ≡ strings (files ++ take o l) k 0 j
            older = strings_same (length files + o) (files ++ take o l) (files ++ take e l') (pairs k 0 j) (omega (arith, inv.inside, last_end_lem (length files) (pairs k 0 j))) (known_grows files l l' o e up kept)

            pub room_again : Room files l₀ k₀ limit n e
            room_again = record { fits = here_at.fits; area = room_is.area; small = room_is.small; nums = room_is.nums; few = room_is.few }

            pub resolving_again : Resolving files t vs l₀ l' k₀ (set (set k (2 * j) w.at) (2 * j + 1) w.len) at n (j + 1) e
            unfolding k'
            resolving_again =
                let x : 2 * j + 2 ≡ 2 * (j + 1) = omega arith in
                record {
                  are = rw (grown, map-append, older, here_at.is, append_assoc) (rw next at inv.are);
                  wrote = written_piece l₀ at (results vs (written_words t k₀ 0 n)) (result vs (written_at t s)) (results vs (written_words t k₀ (j + 1) (n - (j + 1)))) l l' o e left (omega (arith, here_at.fits, room_is.area)) here_at.wrote;
                  inside = rw (grown, last_push) (omega (arith, inv.inside, up, here_at.inside));
                  rest = push_back k j w.at w.len room ∙ rw (← x, ← (drop-drop 2 (2 * j) k), ← (drop-drop 2 (2 * j) k₀), inv.rest);
                  long = length-set (set k (2 * j) w.at) (2 * j + 1) w.len ∙ length-set k (2 * j) w.at ∙ inv.long;
                  some = omega arith;
                }

  pub resolving_done : (limit : ℕ) → n ≤ j → Room files l₀ k₀ limit n o → AllAt files l₀ l k₀ k vs at limit (written_words t k₀ 0 n) n o
  unfolding pairs results
  resolving_done limit h g =
      let q : j ≡ n = omega (arith, inv.some) in
      let z : n - j ≡ 0 = omega arith in
      record {
        are = rw q at (rw (z, append-nil) at inv.are);
        wrote = written_all l₀ at (results vs (written_words t k₀ 0 n)) l o (rw z at inv.wrote);
        fits = g.fits;
        inside = rw q at inv.inside;
        rest = rw q at inv.rest;
      }

pub ruleset resolvings = (rules, resolving_start, resolving_up, pair_in, resolving_over, room_again, resolving_again, resolving_done)

-- ---- its numbers fit

module _ (files l l' : List ℕ) (o limit : ℕ) (val res : List ℕ) (r : Result (Span × ℕ) Full) (p : Placed files l l' o limit val res r) (w : Span) (e : ℕ) (d : r ≡ Ok (w, e)) (l₀ k₀ : List ℕ) (n : ℕ) (m : Room files l₀ k₀ limit n o) where
  fits_in : w.at + w.len < 2 ^ 32
  fits_in =
      let q : PlacedAt files l l' o limit val res w e = rw d at p in
      omega (arith, q.inside, reach_end (length files) w, q.fits, m.area, m.small)

  pub at_fits : w.at < 2 ^ 32
  at_fits = omega (arith, fits_in)

  pub len_fits : w.len < 2 ^ 32
  len_fits = omega (arith, fits_in)

pub ruleset casts = (rules, at_fits, len_fits)
