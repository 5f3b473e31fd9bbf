-- Laws: the loop over the files. Assumes nothing.
use Prim.Native.Nat.{ℕ, ◌+◌, ◌-◌, ◌*◌, ◌≤◌, ◌<◌, ◌^◌}
use native.Mathlib.Nat.{zero-add}
use native.Mathlib.Numerals.{add-one}
use native.Mathlib.Omega.{arith}
use mathlib.Core.Path.{◌≡◌, refl, ◌∙◌}
use mathlib.Core.List.{List}
use lib.ListN.{length, take, drop, get_or, set, length-set}
use borrow.Author.Rules.{rules}
use Rattle.text.specs.Ascii.{Bytes}
use Rattle.spans.specs.Area.{Wrote}
use Rattle.spans.specs.Writes.{wrote_none, wrote_two, wrote_long}
use Rattle.tcl.specs.Join.{join}
use Rattle.tcl.specs.Rewrites.{join_short}
use Rattle.jobindex.specs.Index.{body_at}
use Rattle.joined.specs.Joined.{bodies, placed, Room, Joined}
use Rattle.joined.specs.Laws.{bodies_short, body_within, placed_below}

-- k files are joined, up to o
pub record Going (job files₀ nums₀ files nums : List ℕ) (n k o : ℕ) : Type 0 where
  pub few : k ≤ n
  pub texts : Wrote files₀ files 0 (bodies job nums₀ k) o
  pub places : nums ≡ placed job nums₀ k
  pub long : length files ≡ length files₀
  pub numbers : length nums ≡ length nums₀
  pub small : o < 2 ^ 32

module _ (job files₀ nums₀ : List ℕ) (n : ℕ) (v : Room job files₀ nums₀ n) where
  pub going_start : Going job files₀ nums₀ files₀ nums₀ n 0 0
  unfolding bodies placed
  going_start = record { few = omega arith; texts = wrote_none files₀ 0; places = refl; long = refl; numbers = refl; small = omega arith }

  module _ (files nums : List ℕ) (k o : ℕ) (g : Going job files₀ nums₀ files nums n k o) where
    pub going_end : n ≤ k → Joined job files₀ files nums₀ nums n o
    going_end h = let z : k ≡ n = omega (arith, g.few) in record { texts = rw z at g.texts; places = rw z at g.places }

    module _ (h : k < n) (a b : ℕ) (body : Bytes) (ea : a ≡ get_or nums (4 * k + 2) 0) (eb : b ≡ get_or nums (4 * k + 3) 0) (ep : body ≡ take b (drop a job)) where
      body_is : body ≡ body_at job nums₀ k
      unfolding body_at
      body_is =
          let x : 4 * k + 2 < 1152 = omega (arith, v.few) in
          let y : 4 * k + 3 < 1152 = omega (arith, v.few) in
          rw (ep, ea, eb, g.places, placed_below job nums₀ k (4 * k + 2) x, placed_below job nums₀ k (4 * k + 3) y)

      at_is : o ≡ length (bodies job nums₀ k)
      at_is = g.texts.ends ∙ zero-add _

      -- there is room for one more
      pub room_more : o + length body ≤ length files
      room_more =
          let p = bodies_short job nums₀ k in
          let q = body_within job nums₀ n k h in
          rw body_is (omega (arith, at_is, v.bytes, g.long))

      module _ (files' : List ℕ) (e : ℕ) (w : Wrote files files' o (join body) e) where
        ended : e ≡ o + length (join (body_at job nums₀ k))
        ended = w.ends ∙ rw body_is

        pub end_more : e ≤ length files
        end_more = let p = join_short body in omega (arith, room_more, w.ends)

        pub size_more : e - o < 2 ^ 32
        size_more = omega (arith, end_more, g.long, v.short)

        pub going_more : Going job files₀ nums₀ files' (set (set nums (1152 + 2 * k) o) (1153 + 2 * k) (e - o)) n (k + 1) e
        unfolding bodies placed
        going_more =
            let z : e - o ≡ length (join (body_at job nums₀ k)) = omega (arith, ended) in
            record {
              few = omega arith;
              texts = rw add-one (rw body_is at (wrote_two files₀ files files' 0 (bodies job nums₀ k) (join body) o e g.texts w (omega (arith, end_more, g.long))));
              places = rw (add-one, z, at_is, g.places);
              long = wrote_long files files' o (join body) e w end_more ∙ g.long;
              numbers = length-set (set nums (1152 + 2 * k) o) (1153 + 2 * k) (e - o) ∙ length-set nums (1152 + 2 * k) o ∙ g.numbers;
              small = omega (arith, end_more, g.long, v.short);
            }

pub ruleset turns = (rules, going_start, going_end, room_more, end_more, size_more, going_more)
