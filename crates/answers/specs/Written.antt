-- The form that the parts of a command line stand for.
use Rattle.answers.specs.Forms as forms
use Rattle.answers.specs.declared.form.Form.{Form}

abbrev pub written : Form → forms.Form
written form = record { command = form.command; names = form.names.now; workers = form.workers }
