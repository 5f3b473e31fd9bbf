-- One turn along the connections of an instance: the first that is the port's decides, `star` last.
-- Assumes nothing.
use Rattle.std.specs.Prelude.{Option}
use mathlib.Core.Path.{◌≡◌, refl, ap, ◌∙◌, sym}
use Prim.Native.Nat.{ℕ, ◌+◌, ◌-◌, ◌<◌}
use native.Mathlib.Omega.{arith}
use mathlib.Core.Bool.{Bool, true, false, not, ◌||◌, or-false}
use mathlib.Core.List.{List, [], ◌∷◌, map, tail}
use Rattle.std.specs.Prelude.{None, Some}
use borrow.Author.Rules.{rules}
use borrow.Author.Tests.{not-true, not-false}
use Rattle.text.specs.Ascii.{Bytes, ascii}
use Rattle.text.specs.Compare.{same}
use Rattle.text.specs.Scan.{any}
use Rattle.joblines.specs.Job.{Port, Conn, star, implicit, named, pos}
use Rattle.joblines.specs.Lines.{when}
use Rattle.joblines.specs.Sections.{ports_in, conns_in}
use Rattle.jobindex.specs.Index.{num, row_at, section, module_row}
use Rattle.jobindex.specs.declared.Span.{Span}
use Rattle.design.specs.Connections.{plain, is_first, says_of, is_star, decided}
use Rattle.lines.specs.Cursors.{spanned, Stepped, ConnSeen, PortSeen}
use Rattle.lines.specs.Steps.{no_ports}
use Rattle.lines.specs.declared.ConnAt.{ConnAt}
use Rattle.lines.specs.declared.ConnAt.TheVariants as conn
use Rattle.lines.specs.declared.PortAt.{PortAt}
use Rattle.actual.specs.declared.Net.{Net}
use Rattle.actual.specs.declared.Net.TheVariants as net
use Rattle.refs.specs.Text.{text_of, job_ref}
use Rattle.refs.specs.Laws.{job_is}
use Rattle.refs.specs.declared.Ref.{Ref}
use Rattle.actual.specs.Nets.{net_is, PlainSeen, said_is, actual_of, star_at, conn_next, port_next, is_first_at, says_at, last_of}

-- ---- the port's name
pub port_is : (job mem : Bytes) (n : Span) (y : Ref) (x : Ref) (b : Bool) → x ≡ job_ref n.at n.len → b ≡ same (text_of job mem x) (text_of job mem y) → b ≡ same (spanned job n) (text_of job mem y)
port_is job mem n y x b e h = h ∙ rw (e, job_is job mem n.at n.len)

-- ---- one connection
module _ (job : Bytes) (n : Span) (w : Bytes) (ew : w ≡ spanned job n) (b : Bool) (eb : b ≡ same w (ascii "-")) where
  pub plain_not : b ≡ true → PlainSeen job n net.None
  plain_not h = record { is = λ p. rw (← ew, ← eb, h) }

  pub plain_is : b ≡ false → PlainSeen job n (net.Of n)
  plain_is h = let e : same (spanned job n) (ascii "-") ≡ false = sym (ap (λ (x : Bytes). same x (ascii "-")) ew) ∙ (sym eb ∙ h) in record { is = λ p. rw e }

pub ruleset plains = (rules, plain_not, plain_is)

module _ (job : Bytes) (c : ConnAt) (q : Option PortAt) (p : Bytes) where
  pub said_star : (next : ℕ) → c ≡ conn.Star next → None ≡ says_at job (Some c) q p
  said_star next g = rw g

  module _ (x : Span) (next : ℕ) (g : c ≡ conn.Implicit x next) (b : Bool) (eb : b ≡ same (spanned job x) p) where
    implicit_is : says_at job (Some c) q p ≡ when b (Some p)
    implicit_is = rw (g, ← eb)

    pub said_implicit_not : not b ≡ true → None ≡ says_at job (Some c) q p
    said_implicit_not h = sym (implicit_is ∙ rw (not-true b h))

    pub said_implicit : not b ≡ false → Some (Some p) ≡ says_at job (Some c) q p
    said_implicit h = sym (implicit_is ∙ rw (not-false b h))

  module _ (x n : Span) (next : ℕ) (g : c ≡ conn.Named x n next) (b : Bool) (eb : b ≡ same (spanned job x) p) where
    named_is : says_at job (Some c) q p ≡ when b (plain (spanned job n))
    named_is = rw (g, ← eb)

    pub said_named_not : not b ≡ true → None ≡ says_at job (Some c) q p
    said_named_not h = sym (named_is ∙ rw (not-true b h))

    pub said_named : not b ≡ false → (r : Net) → PlainSeen job n r → said_is job p (Some r) ≡ says_at job (Some c) q p
    said_named h r e = sym (named_is ∙ rw (not-false b h, e.is p))

  module _ (n : Span) (next : ℕ) (g : c ≡ conn.Pos n next) (b : Bool) (eb : b ≡ is_first_at job q p) where
    pos_is : says_at job (Some c) q p ≡ when b (plain (spanned job n))
    pos_is = rw (g, ← eb)

    pub said_pos_not : not b ≡ true → None ≡ says_at job (Some c) q p
    said_pos_not h = sym (pos_is ∙ rw (not-true b h))

    pub said_pos : not b ≡ false → (r : Net) → PlainSeen job n r → said_is job p (Some r) ≡ says_at job (Some c) q p
    said_pos h r e = sym (pos_is ∙ rw (not-false b h, e.is p))

pub ruleset saids = (rules, said_star, said_implicit_not, said_implicit, said_named_not, said_named, said_pos_not, said_pos)

-- ---- the connection that a line is
abbrev conn_is : Bytes → ConnAt → Conn
conn_is job (conn.Star next) = star
conn_is job (conn.Implicit p next) = implicit (spanned job p)
conn_is job (conn.Named p n next) = named (spanned job p) (spanned job n)
conn_is job (conn.Pos n next) = pos (spanned job n)

abbrev order : Bytes → ℕ → ℕ → List Bytes
order job p pe = map (λ (x : Port). x.name) (ports_in (section job p pe))

module _ (job : Bytes) (at end : ℕ) where
  conns_are : (c : ConnAt) → ConnSeen job at end (Some c) → conns_in (section job at end) ≡ conn_is job c ∷ conns_in (section job (conn_next (Some c) end) end)
  conns_are (conn.Star next) s = sym s.says
  conns_are (conn.Implicit p next) s = sym s.says
  conns_are (conn.Named p n next) s = sym s.says
  conns_are (conn.Pos n next) s = sym s.says

  conns_on : (c : ConnAt) → ConnSeen job at end (Some c) → Stepped job at end (conn_next (Some c) end)
  conns_on (conn.Star next) s = s.goes
  conns_on (conn.Implicit p next) s = s.goes
  conns_on (conn.Named p n next) s = s.goes
  conns_on (conn.Pos n next) s = s.goes

star_is : (job : Bytes) (c : ConnAt) → is_star (conn_is job c) ≡ star_at (Some c)
star_is job (conn.Star next) = refl
star_is job (conn.Implicit p next) = refl
star_is job (conn.Named p n next) = refl
star_is job (conn.Pos n next) = refl

module _ (job : Bytes) (p pe : ℕ) (x : Bytes) where
  first_at_lem : (q : Option PortAt) → PortSeen job p pe q → is_first x (order job p pe) ≡ is_first_at job q x
  first_at_lem None s = rw (← s.says)
  first_at_lem (Some r) s = rw (← s.says)

  tail_at : (q : Option PortAt) → PortSeen job p pe q → tail (order job p pe) ≡ order job (port_next q pe) pe
  tail_at None s = rw (← s.says, no_ports job pe)
  tail_at (Some r) s = rw (← s.says)

  says_at_lem : (c : ConnAt) (q : Option PortAt) → PortSeen job p pe q → says_of x (order job p pe) (conn_is job c) ≡ says_at job (Some c) q x
  says_at_lem (conn.Star next) q s = refl
  says_at_lem (conn.Implicit y next) q s = refl
  says_at_lem (conn.Named y n next) q s = refl
  says_at_lem (conn.Pos n next) q s = rw (first_at_lem q s)

-- ---- the connections left decide
pub record Deciding (job : Bytes) (index : List ℕ) (next end sub : ℕ) (x : Bytes) (pe p at : ℕ) (had : Bool) : Type 0 where
  pub left : actual_of (conns_in (section job next end)) (module_row job index sub) x ≡ decided x (when (any is_star (conns_in (section job next end))) x) (order job p pe) (conns_in (section job at end))
  pub stars_left : any is_star (conns_in (section job next end)) ≡ had || any is_star (conns_in (section job at end))

module _ (job : Bytes) (index : List ℕ) (next end sub : ℕ) (x : Bytes) where
  pub deciding_start : (pe p : ℕ) → pe ≡ num index (row_at sub + 4) → p ≡ num index (row_at sub + 3) → Deciding job index next end sub x pe p next false
  unfolding module_row
  deciding_start pe p epe ep = record { left = rw (epe, ep); stars_left = refl }

  module _ (pe p at : ℕ) (had : Bool) (inv : Deciding job index next end sub x pe p at had) where
    pub decided_last : ConnSeen job at end None → (r : Net) → r ≡ last_of had → net_is job x r ≡ actual_of (conns_in (section job next end)) (module_row job index sub) x
    unfolding decided any
    decided_last seen r er =
        let l : conns_in (section job at end) ≡ [] = sym seen.says in
        let s : any is_star (conns_in (section job next end)) ≡ had = inv.stars_left ∙ (rw l (or-false had)) in
        rw er (sym (inv.left ∙ rw (l, s) (sym (go had))))
      where
        go : (t : Bool) → net_is job x (last_of t) ≡ when t x
        go true = refl
        go false = refl

    module _ (c : ConnAt) (seen : ConnSeen job at end (Some c)) (n : ℕ) (en : (e : ℕ) → n ≡ conn_next (Some c) e) where
      pub decided_less : end - n < end - at
      decided_less = let o = conns_on job at end c seen in omega (arith, o.further, o.within, en end)

    module _ (c : ConnAt) (seen : ConnSeen job at end (Some c)) (q : Option PortAt) (port-seen : PortSeen job p pe q) where
      pub decided_here : (n : Net) → said_is job x (Some n) ≡ says_at job (Some c) q x → net_is job x n ≡ actual_of (conns_in (section job next end)) (module_row job index sub) x
      unfolding decided
      decided_here n es = sym (inv.left ∙ rw (conns_are job at end c seen, says_at_lem job p pe x c q port-seen ∙ sym es))

      pub decided_on : said_is job x None ≡ says_at job (Some c) q x → (t : Bool) → t ≡ had || star_at (Some c) → (n : ℕ) → ((e : ℕ) → n ≡ conn_next (Some c) e) → (m : ℕ) → m ≡ port_next q pe → Deciding job index next end sub x pe m n t
      unfolding decided any
      decided_on es t et n en m em =
          record {
            left = inv.left ∙ rw (conns_are job at end c seen, says_at_lem job p pe x c q port-seen ∙ sym es, tail_at job p pe x q port-seen, en end, em);
            stars_left = inv.stars_left ∙ rw (conns_are job at end c seen, star_is job c, et, en end) (go had (star_at (Some c)) (any is_star (conns_in (section job (conn_next (Some c) end) end))));
          }
        where
          go : (a b c : Bool) → a || (b || c) ≡ (a || b) || c
          go true b c = refl
          go false b c = refl

pub ruleset decisions = (rules, deciding_start, decided_last, decided_less, decided_here, decided_on)
