-- Each way of the match is a row of `size_of`.
use Rattle.app_answers.specs.Answers.{size_of}
use borrow.Author.Rules.{rules}
use Rattle.app_answers.proofs.collected.size_of.Goals as goal

pub returns-in-More : goal.returns-in-More
unfolding size_of
returns-in-More c = search rules

pub returns-in-Header : goal.returns-in-Header
unfolding size_of
returns-in-Header c = search rules

pub returns-in-Frame : goal.returns-in-Frame
unfolding size_of
returns-in-Frame c = search rules

pub returns-in-Refused : goal.returns-in-Refused
unfolding size_of
returns-in-Refused c = search rules
