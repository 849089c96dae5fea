-- The begin of a page: what it says of the answer.
--
-- | word                              | meaning                                                                 |
-- |-----------------------------------|-------------------------------------------------------------------------|
-- | heading_of, meaning_of            | the mark and the word of a kind of answer, in its colour; what it means |
-- | start                             | up to the word: the answer's line as the title, and the command         |
-- | line_of                           | the answer's line; nothing for a yes, whose word says it                |
-- | details_of, counts_of             | further lines; numbers, and what is left out                            |
-- | head_of                           | all of it, up to the run or the code                                    |
use Rattle.std.specs.Prelude.{ℕ, List, [], ◌∷◌, ◌++◌, codes, string_bytes}
use Rattle.std.specs.declared.string.String.{String}
use Rattle.fr_page.specs.declared.page.Kind.{Kind}
use Rattle.fr_page.specs.declared.page.Kind.TheVariants.{Yes, No, MayDeadlock, Breach, Deadlock, Safe, Unknown, Followed, FollowedApart, NotFollowed, NotListed, GaveUp, Refused}
use Rattle.fr_page.specs.declared.page.Page.{Page}
use Rattle.fr_page.specs.declared.whole.TheConstants.{HEAD}
use Rattle.fr_page.specs.declared.style.TheConstants.{STYLE}
use Rattle.fr_page.specs.Markup.{between, each, escaped}

abbrev pub heading_of : Kind → List ℕ
heading_of Yes = codes "<h1 class='good'><span aria-hidden='true'>&#10003;</span> yes</h1>\n"
heading_of No = codes "<h1 class='bad'><span aria-hidden='true'>&#10007;</span> no</h1>\n"
heading_of MayDeadlock = codes "<h1 class='odd'><span aria-hidden='true'>?</span> may deadlock</h1>\n"
heading_of Breach = codes "<h1 class='bad'><span aria-hidden='true'>&#10007;</span> breach</h1>\n"
heading_of Deadlock = codes "<h1 class='bad'><span aria-hidden='true'>&#10007;</span> deadlock</h1>\n"
heading_of Safe = codes "<h1 class='good'><span aria-hidden='true'>&#10003;</span> no breach</h1>\n"
heading_of Unknown = codes "<h1 class='odd'><span aria-hidden='true'>?</span> no breach yet</h1>\n"
heading_of Followed = codes "<h1 class='good'><span aria-hidden='true'>&#10003;</span> followed</h1>\n"
heading_of FollowedApart = codes "<h1 class='good'><span aria-hidden='true'>&#10003;</span> followed, each actor by itself</h1>\n"
heading_of NotFollowed = codes "<h1 class='bad'><span aria-hidden='true'>&#10007;</span> not followed</h1>\n"
heading_of NotListed = codes "<h1 class='bad'><span aria-hidden='true'>&#10007;</span> not listed</h1>\n"
heading_of GaveUp = codes "<h1 class='odd'><span aria-hidden='true'>?</span> gave up</h1>\n"
heading_of Refused = codes "<h1 class='odd'><span aria-hidden='true'>!</span> refused</h1>\n"

unfoldable pub meaning_of : Kind → List ℕ
meaning_of Yes = codes "<p>The application in the file breaks none of the twelve rules, in any state of any run.</p>\n"
meaning_of Safe = codes "<p>The application in the file breaks none of the twelve rules, in any state of any run.</p>\n"
meaning_of No = codes "<p>The certificate doesn't show that the application is safe: the application breaks a rule, or a note is false or says too little.</p>\n"
meaning_of MayDeadlock = codes "<p>The application in the file breaks none of the twelve rules. Its mutexes are taken in different orders, so that a run may come to a deadlock.</p>\n"
meaning_of Breach = codes "<p>This run of the application breaks a rule.</p>\n"
meaning_of Deadlock = codes "<p>After this run of the application these actors wait for one another's mutexes for ever.</p>\n"
meaning_of Unknown = codes "<p>No run that was looked at breaks a rule. More states are left, so nothing is known of the others.</p>\n"
meaning_of Followed = codes "<p>A run of the application, shown below, has all events of the trace.</p>\n"
meaning_of FollowedApart = codes "<p>A run of the application has the events before the first that were lost, if there are any. After that no event was found that its actor's own code can't have.</p>\n"
meaning_of NotFollowed = codes "<p>No run of the application was found that has the event in this line. A run that is shown below has the events before it, or those before the first that were lost.</p>\n"
meaning_of NotListed = codes "<p>The trace has something that the application in the file doesn't list.</p>\n"
meaning_of GaveUp = codes "<p>The search ended without an answer: there were more states than it may keep.</p>\n"
meaning_of Refused = codes "<p>A file can't be understood, so there is no verdict.</p>\n"

unfoldable pub start : Page → List ℕ
start p =
    HEAD.now ++ (escaped (string_bytes p.answer) ++ (codes "</title>\n<style>\n" ++ (STYLE.now
    ++ (codes "</style>\n</head>\n<body>\n<header>\n<p>fr_check <code>" ++ (escaped (string_bytes p.command)
    ++ (codes "</code></p>\n" ++ (heading_of p.kind ++ [])))))))

abbrev pub line_of : Kind → List ℕ → List ℕ
line_of Yes answer = []
line_of kind answer = between (codes "<p class='answer'><code>") answer (codes "</code></p>\n")

abbrev pub details_of : {Z : Type 0} → List (String Z) → List ℕ
details_of [] = []
details_of (l ∷ ls) = codes "<pre>" ++ (each [] (l ∷ ls) (codes "\n") ++ codes "</pre>\n")

unfoldable pub counts_of : Page → List ℕ
counts_of p =
    codes "<ul>\n" ++ (each (codes "<li>") p.counts.items (codes "</li>\n") ++ (codes "</ul>\n"
    ++ (each (codes "<p class='omitted'>") p.omissions.items (codes "</p>\n") ++ codes "</header>\n<main>\n")))

unfoldable pub head_of : Page → List ℕ
head_of p =
    start p ++ line_of p.kind (string_bytes p.answer) ++ meaning_of p.kind ++ details_of p.details.items ++ counts_of p
