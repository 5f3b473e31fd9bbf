-- Worked examples of the walk on the text of jobs, each computed.
-- Assumes nothing.
use Rattle.std.specs.Prelude.{ℕ, zero, suc, ◌≡◌, refl}
use Prim.Native.String.{String, ◌++◌}
use mathlib.Core.List.{List, [], ◌∷◌, flat_map}
use Rattle.text.specs.Ascii.{Bytes, ascii}
use Rattle.text.specs.Compare.{same}
use Rattle.text.specs.Scan.{any, split_at}
use Rattle.joblines.specs.Job.{Job, no_job}
use Rattle.joblines.specs.Parse.{Parsed, accepted, refused}
use Rattle.joblines.specs.Examples.{run}
use Rattle.design.specs.Lists.{on_some, first, those, add_new, add_all}
use Rattle.design.specs.Lookup.{module_at}
use Rattle.design.specs.Ports.{directed}
use Rattle.design.specs.Paths.{child_path}
use Rattle.design.specs.Examples.{design, names, the}
use Rattle.walk.specs.Walk.{entered, corruptible, modules_entered, sum_over, element_list, element_entered, domain_list, domain_entered}
use Rattle.walk.specs.Reach.{Scope}

-- the list of a domain: the module lines of a job whose top is `top`, the scope's names, the retained entries, the elements
unfoldable pub lost : String → List Bytes → List Bytes → List Bytes → List Bytes
unfolding the design directed flat_map split_at those add_all add_new any same first module_at entered corruptible element_list domain_list
lost s scope entries es =
    let d = design s in
    on_some (module_at d (the d "top") scope) [] λ base. domain_list d base scope entries es

-- the modules entered
unfoldable pub counted : String → List Bytes → List Bytes → List Bytes → ℕ
unfolding the design flat_map split_at those any same first module_at entered sum_over modules_entered element_entered domain_entered
counted s scope entries es =
    let d = design s in
    on_some (module_at d (the d "top") scope) 0 λ base. domain_entered d base scope entries es

-- one byte string that is empty
abbrev blank : List Bytes
blank = [] ∷ []

-- ---- "Marked runs"

abbrev marked : String
marked = "module=top\nstyle=empty\ninst=0 u1 core\nmodule=core\nstyle=ansi\nport=in clk\nport=out q\ndecl=net 0 w\ndecl=odd 0 r\n"

-- "the run above lists `u1.q`, `u1.w`"
marked_list : lost marked [] [] (names "u1") ≡ names "u1.q u1.w"
unfolding lost names
marked_list = refl

-- "with `u1` retained: count 0"
marked_retained : lost marked [] (names "u1") (names "u1") ≡ []
unfolding lost names
marked_retained = refl

marked_entered : counted marked [] [] (names "u1") ≡ 1
unfolding counted names
marked_entered = refl

-- none is entered at a retained path
marked_none : counted marked [] (names "u1") (names "u1") ≡ 0
unfolding counted names
marked_none = refl

-- ---- elements

-- an element twice, and one below another: each path where first reached
doubled : lost marked [] [] ([] ∷ names "u1 u1") ≡ names "u1.q u1.w"
unfolding lost names
doubled = refl

doubled_entered : counted marked [] [] ([] ∷ names "u1 u1") ≡ 4
unfolding counted names
doubled_entered = refl

-- the module lines have no module for the element
not_found_lem : lost marked [] [] (names "u2 u1/x") ≡ []
unfolding lost names
not_found_lem = refl

-- a tree with an array, an unlisted module and a nonansi module
abbrev tree : String
tree = "module=top\nstyle=empty\ndecl=net 0 t\ninst=0 s mid\nmodule=mid\nstyle=empty\ndecl=data 0 m\ninst=0 k away\ninst=1 v core\ninst=0 u1 core\nmodule=core\nstyle=nonansi\nport=none q\nport=none c\ndecl=out 1 q\ndecl=in 0 c\n"

-- the empty element at the top adds no dot; the array `v` and the unlisted `k` are passed over where they are met
at_top : lost tree [] [] blank ≡ names "t s.m s.u1.q"
unfolding lost names
at_top = refl

-- and under a scope
under_scope : lost tree (names "s") [] blank ≡ names "s.m s.u1.q"
unfolding lost names
under_scope = refl

-- an array is walked as an element
array_element : lost tree [] [] (names "s/v") ≡ names "s.v.q"
unfolding lost names
array_element = refl

-- an element's empty parts stay in its path
empty_parts : lost tree [] [] (names "s//u1 /s/") ≡ names "s..u1.q .s..m .s..u1.q"
unfolding lost names
empty_parts = refl

-- ---- retained entries

-- only equality stops
other_path : lost tree [] (names "s/u1") (names "s//u1") ≡ names "s..u1.q"
unfolding lost names
other_path = refl

-- it stops everything beneath
stops_beneath : lost tree [] (names "s") blank ≡ names "t"
unfolding lost names
stops_beneath = refl

stops_branch : lost tree [] (names "s/u1") blank ≡ names "t s.m"
unfolding lost names
stops_branch = refl

-- an element below a retained one is still walked
below_retained : lost tree [] (names "s") (names "s/u1") ≡ names "s.u1.q"
unfolding lost names
below_retained = refl

-- entries are below the scope: `u1` under `s` is `s.u1`
scoped_entry : lost tree (names "s") (names "u1") blank ≡ names "s.m"
unfolding lost names
scoped_entry = refl

-- the empty entry is the top at the top, and no path under a scope
top_retained : lost tree [] blank blank ≡ []
unfolding lost
top_retained = refl

empty_under_scope : lost tree (names "s") blank blank ≡ names "s.m s.u1.q"
unfolding lost names
empty_under_scope = refl

-- ---- depth: a module that has itself as an instance

abbrev deep : String
deep = "module=top\nstyle=empty\ndecl=net 0 w\ninst=0 u top\n"

-- `u.u. .. .w` with n + 1 u's, the shortest first
unfoldable chains : ℕ → Bytes → List Bytes
chains zero p = child_path p (ascii "w") ∷ []
chains (suc n) p = child_path p (ascii "w") ∷ chains n (child_path p (ascii "u"))

-- depth 32 is the last visited
depth_32 : lost deep [] [] blank ≡ chains 32 []
unfolding lost chains
depth_32 = refl

depth_entered : counted deep [] [] blank ≡ 33
unfolding counted
depth_entered = refl

-- ---- what the promises of an accepted job ask for can be met

abbrev marked_job : String
marked_job = "top=top\noverride=\nstart=p\nfile=p\nbytes=0\n\n" ++ marked ++ "end=\n"

abbrev job_of : Parsed → Job
job_of (accepted j) = j
job_of (refused x n) = no_job

-- the scope at the top, and at `u1`
top_scope : Scope (ascii marked_job) (job_of (run marked_job)) [] (the (design marked) "top")
unfolding run the design first same module_at
top_scope = record { accepts = refl; top = the (design marked) "top"; is_top = refl; exists = refl }

u1_scope : Scope (ascii marked_job) (job_of (run marked_job)) (names "u1") (the (design marked) "core")
unfolding run the design names first same module_at
u1_scope = record { accepts = refl; top = the (design marked) "top"; is_top = refl; exists = refl }
