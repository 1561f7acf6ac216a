-- Each field is the clause of the law of its name.
use Rattle.sched_laws.proofs.law.laws_below.Goals as goal

pub returns : goal.returns
returns c = record {
  one_message = c.one_message.ensures.one;
  or_a_fault = c.one_message.ensures.or_a_fault;
  name = c.stored_texts_can_be_sent.ensures.name;
  attendees = c.stored_texts_can_be_sent.ensures.attendees;
  cancel = c.cancels_read_back.ensures.spells;
  request = c.requests_read_back.ensures;
  reply = c.replies_are_heard.ensures;
  shown_text = c.shown_reads_back.ensures.calendar;
  content = c.one_content.ensures;
  event = c.one_event.ensures.one;
  tree = c.one_tree.ensures.one;
  clear = c.runs_stay_clear.ensures.clear;
  texts = c.answers_name_texts.ensures;
  spell = c.kept_texts_spell.ensures;
  kept = c.kept_texts_pass.ensures;
}
