-- The scope moved: what is asked of the memory, and what is left there. Assumes nothing.
use Rattle.std.specs.Prelude.{ℕ, ◌+◌, ◌-◌, ◌≤◌, ◌<◌, ◌^◌, ◌≡◌, Bool, true, false, ◌&&◌, List, ◌++◌, leb, length, take, drop, Option, None, Some, Result, Ok, Err}
use Rattle.text.specs.Ascii.{Bytes}
use Rattle.spans.specs.Span.{bytes, pairs}
use Rattle.spans.specs.Reach.{reach, last_of}
use Rattle.spans.specs.declared.span.Span.{Span}
use Rattle.model.specs.Limits.{most_scope, most_scopes}
use Rattle.model.specs.Scope.{entered}
use Rattle.store.specs.Strings.{string, span_of, stored_of}
use Rattle.store.specs.declared.stored.Stored.{Stored}
use Rattle.store.specs.declared.state.State.{State}
use Rattle.scopes.specs.declared.go.Out.{Out}
use Rattle.scopes.specs.declared.go.Place.{Place}
use Rattle.scopes.specs.declared.go.Stop.{Stop}
use Rattle.scopes.specs.declared.go.Stop.TheVariants as stop
use Rattle.scopes.specs.Stops.{tag_of}
use Rattle.scopes.specs.Target.{target_reach}

-- "a scope 512 bytes, all scopes from `set_scope` and `load_upf -scope` together 8,192": the scope t, where there have been `all` bytes
abbrev pub scope_fits : ℕ → Bytes → Bool
scope_fits all t = leb (length t) most_scope && leb (all + length t) most_scopes

-- the state with another scope, that many bytes of scopes, and the area up to e
abbrev pub moved_to : State → Stored → ℕ → ℕ → State
moved_to s x all e =
    record {
      head = record { scope = x; top = s.head.top };
      count = record { commands = s.count.commands; substituted = s.count.substituted; scopes = all; entries = s.count.entries };
      fill = record { end = e; log = s.fill.log; rows = s.fill.rows; words = s.fill.words; warnings = s.fill.warnings };
      domains = s.domains;
      nets = s.nets;
      ports = s.ports;
      switches = s.switches;
      isolations = s.isolations;
      retentions = s.retentions;
      shifters = s.shifters;
      portstates = s.portstates;
      tables = s.tables;
      variables = s.variables;
    }

-- the place of a state
abbrev pub place_of : State → Place
place_of s = record { scope = s.head.scope; scopes = s.count.scopes; end = s.fill.end }

-- the answer with the state in its new place; where it stops, the state is as it was
abbrev pub out_of : State → Result Place Stop → Out
out_of s (Ok q) = record { stop = None; state = moved_to s q.scope q.scopes q.end }
out_of s (Err x) = record { stop = Some x; state = s }

-- ---- what is asked

-- a string that lies in the files, or in the area, which is known up to its end
pub record Reaches (files area : Bytes) (p : Place) (t : Span) : Type 0 where
  pub counted : p.scopes ≤ most_scopes
  pub end : length area ≡ p.end
  pub string : reach (length files) t ≤ length files + p.end
  pub small : length files + p.end < 2 ^ 32

-- there is room for the scopes that may still come
pub record Space (files area : Bytes) (p : Place) : Type 0 where
  pub counted : p.scopes ≤ most_scopes
  pub room : p.end + (most_scopes - p.scopes) ≤ length area
  pub scope : reach (length files) (span_of p.scope) ≤ length files + p.end
  pub small : length files + length area < 2 ^ 32

-- and the name, and what is aimed at, reach no further than the area's end
pub record Aims (files area : Bytes) (p : Place) (name : Span) (t : Option Span) : Type 0 where
  pub space : Space files area p
  pub named : reach (length files) name ≤ length files + p.end
  pub target : target_reach (length files) t ≤ length files + p.end

-- and so do the words of the command
pub record Line (files area : Bytes) (words : List ℕ) (n : ℕ) (p : Place) : Type 0 where
  pub space : Space files area p
  pub line : last_of (reach (length files)) (pairs words 0 n) ≤ length files + p.end

-- ---- what is left

-- a limit is passed: nothing is changed
pub record Stays (area₀ area : Bytes) (s : State) (r : Out) : Type 0 where
  pub tag : tag_of r.stop ≡ 10
  pub state : r.state ≡ s
  pub same : area ≡ area₀

-- the scope is t; the area is changed from its end on, and only by as many bytes as t has
pub record In (files area₀ area : Bytes) (s : State) (t : Bytes) (r : Out) : Type 0 where
  pub tag : tag_of r.stop ≡ 0
  pub scope : string (files ++ take r.state.fill.end area) r.state.head.scope ≡ t
  pub state : r.state ≡ moved_to s r.state.head.scope (s.count.scopes + length t) r.state.fill.end
  pub more : s.fill.end ≤ r.state.fill.end
  pub few : r.state.fill.end ≤ s.fill.end + length t
  pub kept : take s.fill.end area ≡ take s.fill.end area₀
  pub back : drop r.state.fill.end area ≡ drop r.state.fill.end area₀
  pub reaches : reach (length files) (span_of r.state.head.scope) ≤ length files + r.state.fill.end
  pub long : r.state.head.scope.len ≤ most_scope

-- by whether it is within the limits
abbrev pub Moves : Bytes → Bytes → Bytes → State → Bytes → Out → Bool → Type 0
Moves files area₀ area s t r true = In files area₀ area s t r
Moves files area₀ area s t r false = Stays area₀ area s r

-- ---- a load: without `-scope` it stays
pub record Same (area₀ area : Bytes) (s : State) (r : Out) : Type 0 where
  pub tag : tag_of r.stop ≡ 0
  pub state : r.state ≡ s
  pub same : area ≡ area₀

abbrev pub Enters : Bytes → Bytes → Bytes → State → Option Bytes → Out → Type 0
Enters files area₀ area s None r = Same area₀ area s r
Enters files area₀ area s (Some w) r =
    Moves files area₀ area s (entered (string (files ++ take s.fill.end area₀) s.head.scope) w) r
    (scope_fits s.count.scopes (entered (string (files ++ take s.fill.end area₀) s.head.scope) w))

-- ---- the same of a place alone

-- to a string that is there, nothing is written
pub record To (p : Place) (x : Span) (all : ℕ) (r : Result Place Stop) : Type 0 where
  pub is : r ≡ Ok (record { scope = stored_of x; scopes = all; end = p.end })
  pub long : x.len ≤ most_scope

abbrev pub Goes : Bytes → Place → Span → Result Place Stop → Bool → Type 0
Goes mem p x r true = To p x (p.scopes + length (bytes mem x)) r
Goes mem p x r false = r ≡ Err stop.PastLimit

-- a limit is passed: nothing is changed
pub record Rests (area₀ area : Bytes) (r : Result Place Stop) : Type 0 where
  pub is : r ≡ Err stop.PastLimit
  pub same : area ≡ area₀

-- the scope is t; the area is changed from its end on, and only by as many bytes as t has
pub record Arrives (files area₀ area : Bytes) (p : Place) (t : Bytes) (r : Result Place Stop) : Type 0 where
  pub place : Place
  pub is : r ≡ Ok place
  pub scope : string (files ++ take place.end area) place.scope ≡ t
  pub scopes : place.scopes ≡ p.scopes + length t
  pub more : p.end ≤ place.end
  pub few : place.end ≤ p.end + length t
  pub kept : take p.end area ≡ take p.end area₀
  pub back : drop place.end area ≡ drop place.end area₀
  pub reaches : reach (length files) (span_of place.scope) ≤ length files + place.end
  pub long : place.scope.len ≤ most_scope

-- by whether it is within the limits
abbrev pub Shifts : Bytes → Bytes → Bytes → Place → Bytes → Result Place Stop → Bool → Type 0
Shifts files area₀ area p t r true = Arrives files area₀ area p t r
Shifts files area₀ area p t r false = Rests area₀ area r

-- a load: without `-scope` it stays
pub record Keeps (area₀ area : Bytes) (p : Place) (r : Result Place Stop) : Type 0 where
  pub is : r ≡ Ok p
  pub same : area ≡ area₀

abbrev pub Leads : Bytes → Bytes → Bytes → Place → Option Bytes → Result Place Stop → Type 0
Leads files area₀ area p None r = Keeps area₀ area p r
Leads files area₀ area p (Some w) r =
    Shifts files area₀ area p (entered (string (files ++ take p.end area₀) p.scope) w) r
    (scope_fits p.scopes (entered (string (files ++ take p.end area₀) p.scope) w))
