-- The heading of a page.
use Rattle.fr_formats.specs.declared.answer.AnswerKind.{AnswerKind}
use Rattle.fr_formats.specs.declared.answer.AnswerKind.TheVariants.{Yes, No, MayDeadlock, Breach, Deadlock, NoBreach, StatesLeft, Followed, FollowedApart, NotFollowed, NotListed, GaveUp, Refused, Machine}
use Rattle.fr_page.specs.declared.page.Kind.{Kind}
use Rattle.fr_page.specs.declared.page.Kind.TheVariants.{Yes as YesPage, No as NoPage, MayDeadlock as MayDeadlockPage, Breach as BreachPage, Deadlock as DeadlockPage, Safe as SafePage, Unknown as UnknownPage, Followed as FollowedPage, FollowedApart as FollowedApartPage, NotFollowed as NotFollowedPage, NotListed as NotListedPage, GaveUp as GaveUpPage, Refused as RefusedPage}

-- the heading of a page for an answer of this kind
abbrev pub page_kind : AnswerKind → Kind
page_kind Yes = YesPage
page_kind No = NoPage
page_kind MayDeadlock = MayDeadlockPage
page_kind Breach = BreachPage
page_kind Deadlock = DeadlockPage
page_kind NoBreach = SafePage
page_kind StatesLeft = UnknownPage
page_kind Followed = FollowedPage
page_kind FollowedApart = FollowedApartPage
page_kind NotFollowed = NotFollowedPage
page_kind NotListed = NotListedPage
page_kind GaveUp = GaveUpPage
page_kind Refused = RefusedPage
page_kind Machine = RefusedPage
